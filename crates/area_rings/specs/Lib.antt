pub mod Choice
pub mod Edge
pub mod Direction
pub mod Rings
pub mod Shape
pub mod KeptEdges
