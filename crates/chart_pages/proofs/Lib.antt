pub mod Entries
pub mod VectorsRead
pub mod FeaturesRead
pub mod HeldRead
pub mod ChartsRead
pub mod CellsRead
pub mod StatesRead
