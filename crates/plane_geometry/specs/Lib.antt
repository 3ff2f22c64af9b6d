pub mod Orientation
pub mod Segment
pub mod EvenOdd
