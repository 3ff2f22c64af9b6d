pub mod Counting
pub mod LegLines
pub mod Arguments
pub mod Pens
pub mod Quotients
pub mod Quiet
