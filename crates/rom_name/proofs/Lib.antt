-- Lemmas on the words of a header that name a heap, on the count of the region that counts, on runs of calls, and on the first message of a stream.
pub mod Counted
pub mod Headed
pub mod Guarding
pub mod Written
pub mod Peeking
pub mod Carrying
