pub mod Looking
pub mod Workings
