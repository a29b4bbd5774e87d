-- What words hold is one, what an inspection tells of them, what the opening and a pass keep, and what callers in threads do and are told.
-- What callers are that have done nothing, and what one had seen earlier; what the opening and a pass keep under the lock, and what a pass hands on; what an update was told, what a closing says; what callers in threads do and are told, and what a thread may be lent.
pub mod Beginning
pub mod Mending
pub mod Tracing
pub mod Lasting
pub mod Moments
pub mod Passed
pub mod Handing
pub mod Batches
pub mod Callers
pub mod Becoming
pub mod Telling
pub mod Stories
pub mod Ending
pub mod Closings
pub mod Each
pub mod Places
pub mod Earlier
pub mod Taking
pub mod Placing
pub mod Dealing
pub mod Gathering
pub mod Spans
pub mod Starting
pub mod Sharing
