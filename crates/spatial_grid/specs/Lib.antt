pub mod Box
pub mod Candidates
pub mod Boxes
pub mod Edges
pub mod Buckets
pub mod Looked
pub mod Kept
pub mod Met
