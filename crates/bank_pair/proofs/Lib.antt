pub mod Naming
pub mod Opened
pub mod Appending
pub mod Written
pub mod Named
pub mod Copied
pub mod Ended
pub mod Turned
