pub mod Covers
pub mod Peaks
pub mod Samples
pub mod Verdicts
pub mod Workings
