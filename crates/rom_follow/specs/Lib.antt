-- The definitions that the contracts of this crate cite.
pub mod Followed
pub mod Answers
pub mod Taking
pub mod Following
pub mod Alone
pub mod Closing
