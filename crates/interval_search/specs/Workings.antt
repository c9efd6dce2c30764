pub mod Ahead
pub mod Cells
