pub mod Turning
pub mod Hearing
pub mod Answered
pub mod Closed
pub mod Completing
pub mod Shipped
pub mod Turns
pub mod Told
pub mod Taking
pub mod Passing
pub mod Writing
mod Worked
