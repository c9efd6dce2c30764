pub mod Bases
pub mod Fields
pub mod Offsets
pub mod Reasons
pub mod Table
pub mod Workings
pub mod Worked
