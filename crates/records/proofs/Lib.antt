pub mod Accepting
pub mod Appending
pub mod Counting
pub mod Extending
pub mod Growing
pub mod Laws
pub mod Merging
