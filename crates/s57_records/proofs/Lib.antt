pub mod AnswerLemmas
pub mod Changes
pub mod Datasets
mod KeptChanges
mod Examples
pub mod WithinLimits
pub mod Made
pub mod Gathering
