-- Lemmas on walks, on elements and on what their lines rebuild.
pub mod Fits
pub mod Walks
pub mod Regions
pub mod Sizing
pub mod Sums
pub mod Room
pub mod Texts
pub mod Ordered
pub mod Packing
pub mod Packed
pub mod Growing
pub mod Rebuilding
pub mod Carrying
