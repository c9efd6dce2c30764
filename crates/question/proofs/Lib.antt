pub mod AskedLemmas
pub mod CommandLemmas
pub mod FormLemmas
pub mod ItemLemmas
pub mod SaidLemmas
pub mod SheetLemmas
pub mod TextLemmas
