pub mod WeightLemmas
pub mod YearLemmas
pub mod PlaceLemmas
pub mod PlainLemmas
pub mod StretchLemmas
pub mod StartLemmas
