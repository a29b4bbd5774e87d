-- What passes between a caller and its client, in order, and what makes it a talk.
pub mod Events
pub mod Talking
pub mod Peers
pub mod Saying
pub mod Hearing
pub mod Marks
pub mod Memory
