pub mod Digits
pub mod Leader
pub mod Entry
