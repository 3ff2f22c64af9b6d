pub mod Token
pub mod Swatch
pub mod Under
pub mod Named
pub mod Reading
pub mod Answers
