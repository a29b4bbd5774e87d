-- What is shipped of a history, and what a talk promises whose updates are.
pub mod Streams
pub mod Streaming
