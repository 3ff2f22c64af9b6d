pub mod Blocks
pub mod Merge
pub mod Walks
pub mod Plans
pub mod Shows
pub mod Counts
pub mod Paints
pub mod Refreshes
