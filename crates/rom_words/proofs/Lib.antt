-- Lemmas on what words say, and on what `clap` makes of them.
pub mod Saying
pub mod Walking
pub mod Turns
pub mod Rows
pub mod One
pub mod Many
pub mod Taken
pub mod Building
pub mod Shapes
pub mod Matching
pub mod Values
