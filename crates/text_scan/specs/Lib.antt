pub mod Number
pub mod Depth
pub mod Written
