-- Lemmas on copies, on comparisons, on what an image keeps and on the region that counts.
pub mod CopyBack
pub mod Keeping
mod Restoring
mod Doubting
mod Pieces
mod Copying
pub mod Calling
