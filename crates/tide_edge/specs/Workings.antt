pub mod HeldClocks
pub mod HeldDoors
pub mod OpenFile
pub mod Lines
pub mod Reading
pub mod MemoryLaws
