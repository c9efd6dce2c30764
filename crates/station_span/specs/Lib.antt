pub mod CellSending
pub mod Following
pub mod Levels
pub mod Peaks
pub mod Rejections
pub mod Sites
pub mod Workings
