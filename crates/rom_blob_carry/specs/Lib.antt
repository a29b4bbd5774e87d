-- Keys with bytes, carried over.
pub mod Elements
pub mod Lines
pub mod Sizes
pub mod Packed
pub mod Grown
pub mod Carried
