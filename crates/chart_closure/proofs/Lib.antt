pub mod Faults
pub mod Least
pub mod Closures
pub mod Unchanged
