pub mod AsIs
pub mod Steps
pub mod Making
pub mod Merging
pub mod Ranges
pub mod Reading
pub mod Rules
