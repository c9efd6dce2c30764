mod DigitsLemmas
pub mod ExpectedLemmas
mod ReadingLemmas
mod RoundTrip
mod RoundingLemmas
mod StepsLemmas
mod WritingLemmas
