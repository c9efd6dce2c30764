pub mod Abouts
pub mod ByLayout
pub mod Listings
pub mod Records
pub mod StationLists
pub mod Workings
pub mod Worked
