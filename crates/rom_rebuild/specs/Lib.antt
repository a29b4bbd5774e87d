-- The elements of a state, the lines that put them into a new heap, and what is carried over by them.
pub mod Elements
pub mod Lines
pub mod Carried
pub mod Laws
pub mod Measures
pub mod Chains
pub mod Filling
