pub mod Abouts
pub mod Checks
pub mod Clock
pub mod Heights
pub mod Peaks
pub mod Reports
pub mod Subordinates
pub mod Worked
