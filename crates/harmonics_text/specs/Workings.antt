pub mod Absent
pub mod BookParsing
pub mod Plain
pub mod Readers
