-- What recovery does.
pub mod Copied
pub mod Image
pub mod Recovered
pub mod Calls
pub mod Doubt
