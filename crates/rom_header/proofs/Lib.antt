-- Lemmas on parts, on a new heap, and on what a stop leaves after calls that write nothing.
pub mod Parts
pub mod Making
pub mod Since
