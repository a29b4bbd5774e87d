-- A whole heap as words, what is not taken, and what a stop leaves while one is put.
pub mod Whole
pub mod Putting
pub mod Viewing
