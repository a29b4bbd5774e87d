-- Lemmas on passes: what they find, apply, answer and record, and what a stop during one leaves.
pub mod Outcomes
pub mod Ends
pub mod Since
pub mod Outside
pub mod Counting
pub mod Before
pub mod Sessions
pub mod Writing
pub mod Scans
pub mod Limits
mod Wanting
pub mod Weights
pub mod Stores
pub mod Spending
pub mod Applies
pub mod Gives
pub mod Publishes
pub mod Copies
pub mod Bridge
pub mod Refusing
pub mod Rested
pub mod Keeping
pub mod Begins
pub mod Failing
pub mod Handed
