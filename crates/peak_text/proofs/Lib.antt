mod PeakGrammarLemmas
mod PeakLengthLemmas
mod PeakLineLemmas
pub mod PeakRangeLemmas
mod PeakReadingLemmas
