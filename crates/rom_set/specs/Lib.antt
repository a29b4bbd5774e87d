-- The definitions that the contracts of this crate cite.
pub mod Set
pub mod Nodes
pub mod Walk
pub mod Link
