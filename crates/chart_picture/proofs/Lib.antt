pub mod Ends
pub mod Fetching
pub mod Reading
pub mod Loading
pub mod Grids
pub mod Gathering
pub mod Running
