pub mod Orders
pub mod Patterns
pub mod Texts
pub mod TextBytes
pub mod Hashes
pub mod PatternsLemmas
pub mod TextsLemmas
pub mod CellKinds
