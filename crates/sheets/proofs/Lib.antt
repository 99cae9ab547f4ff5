pub mod Bits
pub mod Chunks
pub mod Good
pub mod Left
pub mod Tally
