-- Lemmas on the queue's blocks.
pub mod Links
pub mod Appended
pub mod Unlinked
pub mod Regions
pub mod Taking
pub mod Heads
