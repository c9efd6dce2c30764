pub mod LoadingLemmas
pub mod OpenedLemmas
pub mod ReadingLemmas
pub mod RequestLemmas
pub mod SettledLemmas
pub mod ReportingLemmas
