-- Lemmas on the region, the lines and the texts of an ordered index.
pub mod Asking
pub mod Determined
