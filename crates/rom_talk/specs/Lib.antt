-- What a heap that converses promises.
pub mod Talks
pub mod Serving
pub mod Seated
pub mod Sessions
pub mod Promise
pub mod Words
