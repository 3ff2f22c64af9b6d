pub mod Digits
pub mod Building
pub mod Answered
pub mod Walks
pub mod Apart
pub mod Ranges
