pub mod PeakReadings
pub mod PeakSpelling
pub mod PeakTexts
pub mod VerdictLines
pub mod Worked
pub mod Workings
