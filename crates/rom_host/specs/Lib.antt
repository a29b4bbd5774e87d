-- What a contract sees of peers at real files.
pub mod Peers
