pub mod Word
pub mod Number
pub mod Line
pub mod Reading
pub mod Reply
