pub mod AheadLemmas
pub mod CellLemmas
