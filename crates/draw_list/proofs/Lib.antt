pub mod Shown
pub mod Named
pub mod Orders
pub mod Unique
pub mod Placed
pub mod Printed
