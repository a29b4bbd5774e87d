pub mod Posting
pub mod Scanning
pub mod Answering
