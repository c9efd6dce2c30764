pub mod CoveringLemmas
pub mod FindingLemmas
pub mod SpanLemmas
