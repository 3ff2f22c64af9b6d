mod Decided
mod Names
mod Texts
pub mod RecordNames
