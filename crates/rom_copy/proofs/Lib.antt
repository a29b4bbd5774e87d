-- Lemmas on the words of a whole heap, and on putting them.
pub mod Wholes
