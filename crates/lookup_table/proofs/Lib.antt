pub mod Each
pub mod Closed
pub mod Indexes
pub mod Selections
pub mod Words
pub mod Looked
pub mod Progress
pub mod Spelled
