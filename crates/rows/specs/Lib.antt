pub mod Orders
pub mod Sorted
