pub mod Books
pub mod Worked
