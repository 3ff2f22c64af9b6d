pub mod Users
pub mod Rows
pub mod Sets
