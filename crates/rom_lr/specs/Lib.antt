pub mod Side
pub mod Seats
pub mod Opening
pub mod Reading
pub mod Writing
pub mod Switch
pub mod Notes
