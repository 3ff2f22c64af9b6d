pub mod Acronym
pub mod Entry
pub mod Codes
pub mod Reading
pub mod Answers
