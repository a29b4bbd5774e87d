-- The definitions that the contracts of this crate cite: the root of a new region, what an update does, the
-- room that updates leave and the object's laws; and what the inspections answer.
pub mod Fresh
pub mod Updates
pub mod Fits
pub mod Laws
pub mod Tests
pub mod Walks
pub mod Parts
pub mod Answers
pub mod Node
pub mod Renewed
