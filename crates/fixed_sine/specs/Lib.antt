pub mod Circle
pub mod Table
pub mod Sine
pub mod Rate
pub mod BinaryAngle
pub mod Approximate
pub mod Workings
