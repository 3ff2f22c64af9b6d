pub mod Judged
pub mod Headers
pub mod Texts
pub mod Alike
pub mod Edits
pub mod NoFault
pub mod CellsKept
pub mod OneChange
