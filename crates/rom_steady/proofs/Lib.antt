-- Laws on what a writer leaves standing, and readings one after another.
pub mod Laws
pub mod Reading
