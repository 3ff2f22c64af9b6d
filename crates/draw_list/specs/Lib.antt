pub mod Known
pub mod Items
pub mod Block
pub mod Blocks
pub mod Drawing
pub mod Lines
pub mod Print
