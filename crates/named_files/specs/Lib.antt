pub mod Loading
pub mod RunFaults
pub mod Opened
pub mod Readings
pub mod Reporting
pub mod Worked
pub mod Workings
