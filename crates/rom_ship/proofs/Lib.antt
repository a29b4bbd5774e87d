-- Lemmas on the frames of updates, and on the stream of a session.
pub mod Batches
pub mod Streamed
