pub mod Parting
pub mod FirstFaults
pub mod LinesSoFar
pub mod RestSoFar
