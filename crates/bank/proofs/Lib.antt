-- What a teller's calls leave, that moves keep the total, and what the history of tellers has.
pub mod Moving
pub mod Telling
pub mod Whole
