pub mod Blending
mod BookValues
pub mod InRange
pub mod Products
mod Ready
mod WavesOf
mod ReadyYears
mod Circling
pub mod WithinLimits
pub mod Touched
pub mod Predicting
mod Around
mod Answering
pub mod Gaps
pub mod GreatestYear
pub mod Approximating
pub mod YearChanges
pub mod Steps
pub mod Turning
pub mod HourOfNewYear
pub mod CellSteps
pub mod PlainSteps
pub mod Ranges
pub mod Present
mod YearLimits
mod OneMore
