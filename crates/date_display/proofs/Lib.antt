pub mod Calendars
pub mod Spelled
pub mod Named
pub mod Kept
pub mod Bounds
