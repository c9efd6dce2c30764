pub mod UnitGaps
pub mod Agreements
