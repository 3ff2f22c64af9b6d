pub mod Appending
pub mod Fronts
pub mod InStep
pub mod BankRead
pub mod Records
pub mod Walk
