-- What contracts see of counted words.
pub mod Counted
