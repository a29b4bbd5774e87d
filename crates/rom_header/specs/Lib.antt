-- The layout of a heap on a device, and the region that counts.
pub mod Layout
pub mod Writing
pub mod Regions
pub mod Held
pub mod Headers
pub mod Fresh
pub mod Calls
