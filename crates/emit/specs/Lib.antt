pub mod Buffers
pub mod Marks
