pub mod EndLemmas
pub mod HeadLemmas
pub mod LineLemmas
pub mod RowLemmas
