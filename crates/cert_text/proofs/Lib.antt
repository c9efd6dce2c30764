pub mod OptionLemmas
pub mod NumberLemmas
pub mod LineLemmas
pub mod TextLemmas
pub mod LengthLemmas
pub mod AppendLemmas
pub mod CutLemmas
pub mod FreeLemmas
mod GrammarLemmas
pub mod PartLemmas
pub mod ByLineLemmas
pub mod ReadingLemmas
