pub mod Difference
pub mod Same
