-- What the check did not find by itself.
pub mod Runs
pub mod Steps
pub mod Replies
