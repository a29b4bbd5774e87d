-- The definitions that the contracts of this crate cite.
pub mod Identities
pub mod Meetings
pub mod Ends
pub mod Peeked
pub mod Greetings
pub mod Heading
pub mod Adopting
pub mod Texts
pub mod Telling
