pub mod Coords
pub mod Found
pub mod Kept
pub mod Unsafe
