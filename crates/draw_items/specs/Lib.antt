pub mod Items
pub mod Edges
pub mod Style
