-- Which words are refused, and what the opening and the making of a heap answer, count and leave.
pub mod Refusals
pub mod Calls
pub mod AtRest
pub mod Opening
pub mod Making
pub mod Within
pub mod Opens
pub mod View
pub mod Upgrading
pub mod UpgradeCalls
pub mod Batch
