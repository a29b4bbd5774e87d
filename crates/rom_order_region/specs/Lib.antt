-- The states and calls of an ordered index, its region with its inspection, and its texts.
pub mod Region
pub mod State
pub mod Inspection
pub mod Marks
pub mod Texts
pub mod Tree
pub mod High
pub mod Nodes
pub mod Sides
pub mod Attach
pub mod Detach
pub mod Keys
pub mod Find
pub mod Query
pub mod Near
