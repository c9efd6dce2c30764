pub mod ArgumentErrors
pub mod PageTexts
pub mod Pages
pub mod Promises
