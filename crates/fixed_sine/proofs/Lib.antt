pub mod ProductLemmas
pub mod TableLemmas
pub mod QuarterLemmas
pub mod CircleLemmas
pub mod RateLemmas
pub mod RowLemmas
pub mod DegreeLemmas
pub mod PartLemmas
