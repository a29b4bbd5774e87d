pub mod Ending
pub mod Gathering
pub mod Readying
pub mod Refusing
pub mod Behind
pub mod Sharing
