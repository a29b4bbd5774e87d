-- Where a caller stands, what its calls leave of it, and what a run of callers promises.
pub mod Standing
pub mod Working
pub mod Worked
