-- Lemmas on what is printed of a drill, on the words of the command line, on counting, on what is printed with which status, and on the versions of a heap.
pub mod Ending
pub mod Drilling
pub mod Summing
pub mod Replies
pub mod Printed
pub mod Apart
