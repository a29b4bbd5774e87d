-- Lemmas on lines, and on what they rebuild.
pub mod Lines
pub mod Carrying
pub mod Parts
pub mod Sorted
