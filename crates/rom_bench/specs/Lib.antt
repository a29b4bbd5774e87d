-- What the functions of this crate tell each other.
pub mod Holds
pub mod Stores
