pub mod Building
pub mod Answered
pub mod Marking
pub mod Viewing
pub mod Kept
pub mod Walks
