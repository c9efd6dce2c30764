pub mod AnsweringLemmas
pub mod AskedLemmas
pub mod CertificateLemmas
pub mod CheckingLemmas
pub mod CompletenessLemmas
pub mod FileLemmas
pub mod MemoryLemmas
pub mod OutcomeLemmas
pub mod PassedOnLemmas
pub mod PeakCertificateLemmas
pub mod ReplyLemmas
pub mod SettledLemmas
pub mod SheetLemmas
mod ShownLemmas
pub mod OwnLemmas
