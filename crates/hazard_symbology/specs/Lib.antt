pub mod Symbol
pub mod Point
pub mod Edges
pub mod Hazard
