pub mod LengthLemmas
pub mod PartsLemmas
pub mod SpeedLemmas
