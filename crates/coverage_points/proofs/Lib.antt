pub mod Members
pub mod Numbered
pub mod Held
pub mod Covering
pub mod Ends
pub mod Charted
pub mod Numbers
