pub mod Cells
pub mod RateForms
pub mod TurnLaw
pub mod MarkLaw
pub mod Narrow
