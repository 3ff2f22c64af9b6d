pub mod Casts
pub mod Integers
pub mod Places
pub mod Rays
pub mod Walk
pub mod Crossings
