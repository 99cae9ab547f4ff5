pub mod Records
pub mod Batches
pub mod Lists
