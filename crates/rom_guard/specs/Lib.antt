-- Guarded groups: what they do, their words and laws, their texts, and what the work on them leaves.
pub mod Guarded
pub mod Working
pub mod Wording
pub mod Laws
pub mod Texts
