pub mod Widened
pub mod Inside
pub mod Turns
pub mod Ends
pub mod Outside
pub mod Growth
pub mod Meeting
