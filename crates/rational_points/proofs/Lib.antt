pub mod Levels
pub mod Multiples
pub mod CommonPoints
pub mod Parity
pub mod Marks
pub mod ScaledRings
pub mod JoinedPoints
pub mod SamePoints
