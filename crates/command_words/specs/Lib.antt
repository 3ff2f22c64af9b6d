pub mod Numbers
pub mod Settings
pub mod Command
pub mod Reading
pub mod Options
