pub mod Calendars
pub mod Workings
