pub mod Heads
pub mod Paths
pub mod Responses
pub mod Rows
pub mod Workings
