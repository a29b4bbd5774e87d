-- Lemmas on entries, and on what puts them into an index.
pub mod Told
pub mod Fits
pub mod Rising
pub mod Lines
pub mod SizesText
pub mod Putting
pub mod Recounted
pub mod Rebuilding
