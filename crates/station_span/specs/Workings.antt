pub mod Curves
pub mod Finds
pub mod Peaks
pub mod Spans
