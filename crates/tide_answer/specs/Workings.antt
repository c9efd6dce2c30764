pub mod Certifying
pub mod Found
pub mod Peaks
pub mod Requests
pub mod Rows
pub mod Streaming
pub mod Tallies
