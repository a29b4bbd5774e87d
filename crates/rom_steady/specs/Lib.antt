-- The rule that a writer keeps, and what is seen of words that others change.
pub mod Rule
pub mod Watched
pub mod Seen
