pub mod Cells
pub mod Policies
pub mod Offsets
pub mod Columns
pub mod Merging
pub mod Steps
