-- Lemmas on groups, on their lines, on what lines rebuild, and on what a region is filled with.
pub mod Spans
pub mod Groups
pub mod Caps
pub mod Oks
pub mod Taking
pub mod Grouped
pub mod Reading
pub mod Rebuilding
pub mod Walks
pub mod Entries
pub mod Regions
pub mod Fits
pub mod Places
pub mod Filled
