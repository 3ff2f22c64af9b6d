pub mod Leg
pub mod Area
pub mod Bound
pub mod Slope
pub mod Side
pub mod Band
pub mod Parted
pub mod Points
