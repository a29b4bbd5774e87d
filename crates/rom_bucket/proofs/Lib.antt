-- Lemmas on finite maps, and on keys in the chains of buckets.
pub mod Heads
pub mod Walking
pub mod Seeking
pub mod Sparing
pub mod Linking
pub mod Entries
pub mod Chained
pub mod Keys
pub mod Finding
pub mod Places
pub mod Added
pub mod Removed
pub mod Ordered
pub mod Found
