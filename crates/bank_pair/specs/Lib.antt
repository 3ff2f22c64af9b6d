pub mod Head
pub mod Saving
pub mod Pair
pub mod Handle
pub mod Copying
