mod Failing
mod DataSets
mod Lists
mod Places
mod Folding
mod Charts
mod Drafts
mod Rebuilding
mod Sequences
mod SequenceTests
pub mod Accepted
mod Held
mod OneName
mod LocalChanges
mod Asked
mod OtherRecords
mod NamedRecords
mod NameLists
