pub mod Cover
pub mod Coverage
pub mod Uncovered
