pub mod Order
pub mod Shifts
pub mod Events
pub mod Merging
pub mod Worked
pub mod Workings
pub mod FreshCurves
