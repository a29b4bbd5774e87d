-- What words hold is one, and how many calls an opening and a making come to.
pub mod Holding
pub mod Recovering
pub mod Room
pub mod Within
pub mod Counted
pub mod Regions
pub mod Outside
pub mod Writing
pub mod Leaving
pub mod Upgraded
pub mod Late
