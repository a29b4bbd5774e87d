-- The ordered index: its states and calls, its region with its inspection, the laws of the object, and its lines
-- and texts.
pub mod Codes
pub mod Index
pub mod Laws
pub mod Tagged
pub mod Lines
pub mod Longest
pub mod Asking
