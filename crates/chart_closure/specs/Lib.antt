pub mod Closed
pub mod Unchanged
