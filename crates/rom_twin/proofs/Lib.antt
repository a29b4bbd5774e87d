-- Lemmas on runs of calls, on ranges that are written, on phases and on the calls of a batch.
pub mod Since
mod Written
pub mod Phases
mod Calls
pub mod Repairs
