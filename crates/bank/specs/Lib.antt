-- Moves, what tellers count, and what follows for the history.
pub mod Moved
pub mod Promise
pub mod Tellers
