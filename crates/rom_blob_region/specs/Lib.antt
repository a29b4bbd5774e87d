-- The definitions that the contracts cite.
pub mod State
pub mod Region
pub mod Calls
pub mod Fresh
pub mod Texts
pub mod Bytes
pub mod Packed
pub mod Tests
pub mod Walks
pub mod Parts
pub mod Answers
