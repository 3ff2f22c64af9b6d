pub mod Written
pub mod Reading
pub mod Named
pub mod Selection
pub mod Places
pub mod Index
pub mod Lines
pub mod Answers
