-- What a program promises of a heap that it works on.
pub mod Use
pub mod Statuses
pub mod Refusing
pub mod Reading
pub mod Keeping
pub mod Played
pub mod Working
pub mod Complete
pub mod Asked
pub mod Plain
pub mod Named
pub mod Promise
