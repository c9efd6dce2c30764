pub mod Calendars
pub mod Escaping
pub mod Folding
pub mod Worked
