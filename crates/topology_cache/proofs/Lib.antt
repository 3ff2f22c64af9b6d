pub mod Same
pub mod NameSets
pub mod Uses
pub mod Cells
pub mod Walks
pub mod UseLists
pub mod Rows
pub mod Changes
