-- The words of the program, what it shows, and what it promises.
pub mod Words
pub mod Named
pub mod Shown
pub mod Kinds
pub mod Promise
pub mod Copying
pub mod Copied
pub mod Growing
pub mod Grown
