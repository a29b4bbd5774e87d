-- The definitions that the contracts of this crate cite.
pub mod Map
pub mod Shift
pub mod Sums
