-- The definitions that the contracts of this crate cite.
pub mod Words
pub mod Turns
pub mod Stops
pub mod Tallied
pub mod Following
pub mod Promise
pub mod Shipped
pub mod Merging
pub mod Updates
