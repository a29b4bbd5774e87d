mod Alone
pub mod Alike
pub mod Passes
pub mod Ended
mod Starting
mod Taking
pub mod Arriving
pub mod Framed
pub mod Histories
mod Keeping
pub mod Tried
