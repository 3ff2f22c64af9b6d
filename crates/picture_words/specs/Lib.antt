pub mod Command
pub mod Marked
pub mod View
pub mod Reading
pub mod Naming
