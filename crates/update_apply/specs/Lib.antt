pub mod Fault
pub mod Edited
pub mod Changed
pub mod Moves
