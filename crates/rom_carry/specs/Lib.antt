-- The scripts that lines make, what they rebuild, and what is carried over.
pub mod Scripts
pub mod Rebuilds
pub mod Carried
pub mod Parts
pub mod Gauges
