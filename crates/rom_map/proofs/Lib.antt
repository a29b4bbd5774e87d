-- Lemmas on the map's blocks, on keys in buckets' chains with their values and stamps.
pub mod Keyed
pub mod Finding
pub mod Regions
pub mod Added
pub mod Adding
pub mod Replaced
pub mod Moves
pub mod Shifting
pub mod Removed
pub mod Removing
pub mod Totals
