pub mod Tokens
pub mod Swatches
pub mod Lines
pub mod Progress
pub mod NamedTables
