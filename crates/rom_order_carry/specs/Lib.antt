-- The entries of an ordered index, their lines, what is told of its size, and how it is carried over.
pub mod Entries
pub mod Sizes
pub mod Carries
pub mod Laws
