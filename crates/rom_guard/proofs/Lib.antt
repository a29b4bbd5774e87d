-- Lemmas of this crate.
pub mod Many
pub mod Asking
pub mod Reaching
pub mod Storing
pub mod Telling
pub mod Weights
