pub mod ByteTests
pub mod Spellings
pub mod CommandRead
