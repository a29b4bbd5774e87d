pub mod Sharing
pub mod Untouched
pub mod Taking
