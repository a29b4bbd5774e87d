-- The images of each phase, and what a twin is seen as.
pub mod Ranges
pub mod Images
pub mod Calls
pub mod Seen
