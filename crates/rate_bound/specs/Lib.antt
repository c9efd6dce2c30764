pub mod Rates
pub mod Scale
pub mod Sizes
pub mod CurveSpecs
pub mod CurveStates
pub mod Workings
