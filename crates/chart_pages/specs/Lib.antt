pub mod Vectors
pub mod Features
pub mod Held
pub mod Charts
pub mod Cells
pub mod Grammar
pub mod Reading
