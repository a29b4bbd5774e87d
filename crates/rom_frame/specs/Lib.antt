-- The definitions that the contracts of this crate cite.
pub mod Frames
pub mod Heads
pub mod Messages
