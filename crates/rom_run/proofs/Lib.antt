-- Lemmas on sources, on what a heap leaves, on statuses, and on how a command ends where nothing fails.
pub mod Joined
pub mod Ending
pub mod Leaving
pub mod Lasting
pub mod Sources
pub mod Showing
pub mod Lawful
pub mod Replies
pub mod Told
pub mod Sessions
pub mod Statuses
pub mod Uncalled
pub mod Accepted
pub mod Completing
