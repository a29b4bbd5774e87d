-- The definitions that the contracts of this crate cite.
pub mod Few
pub mod Fronts
pub mod Intakes
pub mod Waiting
pub mod Batches
pub mod Chased
pub mod Tallied
pub mod Tailed
pub mod Prefixes
pub mod Promise
pub mod Named
