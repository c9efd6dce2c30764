pub mod Decimal
pub mod Digits
pub mod Expected
pub mod Names
pub mod Rounding
pub mod Workings
pub mod Writing
