pub mod Acronyms
pub mod Pairs
pub mod Lines
pub mod Entries
pub mod Progress
