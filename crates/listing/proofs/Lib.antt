mod UnitLemmas
pub mod AppendLemmas
