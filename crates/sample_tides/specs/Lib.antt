pub mod Generator
pub mod Parts
pub mod Texts
pub mod File
