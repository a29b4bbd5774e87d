pub mod Untouched
pub mod Callers
pub mod Stores
pub mod Staying
