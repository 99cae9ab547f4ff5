pub mod Closures
pub mod Deques
pub mod Rings
pub mod Shifts
pub mod Vecs
