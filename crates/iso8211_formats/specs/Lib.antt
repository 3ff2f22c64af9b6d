pub mod Terminators
pub mod Layout
pub mod Grammar
pub mod Reading
