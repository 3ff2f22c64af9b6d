pub mod WordTests
pub mod Parting
pub mod Events
pub mod Verbs
pub mod Answered
pub mod Replies
