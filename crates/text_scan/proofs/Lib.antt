pub mod Floors
pub mod Scans
pub mod Numbers
pub mod DepthTexts
pub mod Decimals
