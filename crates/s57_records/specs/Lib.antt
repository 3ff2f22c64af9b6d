pub mod Subfields
pub mod Rows
pub mod Dataset
pub mod Gathering
pub mod LayoutReadings
pub mod Answers
pub mod RecordReading
pub mod Resolved
