pub mod Bank
pub mod Content
pub mod Fault
pub mod Handle
pub mod Moments
pub mod Parts
pub mod WalkFault
pub mod Reading
