pub mod Inside
pub mod NumberRanges
pub mod Prepared
pub mod YearLimits
