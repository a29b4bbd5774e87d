-- Streams of bytes, the lines of scripts, and the texts of results.
pub mod Streams
pub mod Limits
pub mod Memory
pub mod Adapts
pub mod Phrases
pub mod Lines
pub mod Text
pub mod Determines
pub mod Trio
pub mod Runs
pub mod Gathered
pub mod Told
