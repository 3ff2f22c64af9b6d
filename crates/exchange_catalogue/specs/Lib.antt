pub mod Answers
pub mod CellNames
pub mod Entries
pub mod Catalogue
pub mod Paths
pub mod Orders
pub mod Firsts
