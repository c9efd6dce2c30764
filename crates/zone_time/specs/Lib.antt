pub mod Dates
pub mod Moments
pub mod Locals
pub mod Zones
pub mod ZoneFiles
pub mod Worked
