-- A run of words within a list.
pub mod Runs
-- What the lines of a script ask for.
pub mod Steps
-- What became of lines.
pub mod Replies
