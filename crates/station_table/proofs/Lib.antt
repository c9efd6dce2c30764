pub mod FieldLemmas
pub mod OnLiterals
pub mod RecordLemmas
pub mod TableLemmas
pub mod ValidTableLemmas
