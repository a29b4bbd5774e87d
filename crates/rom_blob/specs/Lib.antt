-- Keys with bytes as an object: the words of its calls and replies and their laws, and its lines and texts.
pub mod Codes
pub mod Tags
pub mod Blobs
pub mod Crowded
pub mod Laws
pub mod Lines
pub mod Longest
pub mod Texts
