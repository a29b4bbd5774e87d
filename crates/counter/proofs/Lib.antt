-- Lemmas on a counter's lines.
pub mod Reading
