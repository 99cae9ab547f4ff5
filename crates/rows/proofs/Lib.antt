pub mod Halving
pub mod Laws
