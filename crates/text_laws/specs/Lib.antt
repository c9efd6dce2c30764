pub mod Heights
pub mod Labels
pub mod Lines
pub mod Pages
pub mod Rows
pub mod Stations
pub mod Worked
