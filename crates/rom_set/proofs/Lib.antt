-- Lemmas on the sets of rising numbers, and on the set's blocks.
pub mod Rising
pub mod Passed
pub mod Walking
pub mod Places
pub mod Links
pub mod Linked
pub mod Unlinked
pub mod Regions
pub mod Taking
pub mod Giving
