pub mod Coded
pub mod Heads
mod Worked
pub mod Blocks
pub mod Hearing
