pub mod Calendar
pub mod Days
pub mod Texts
pub mod Shown
pub mod Chart
