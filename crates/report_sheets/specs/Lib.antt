pub mod Sheets
pub mod Pages
pub mod Tallies
pub mod Ranges
pub mod Listings
pub mod Workings
pub mod Worked
