-- Lemmas on talks and on how they end.
pub mod Going
pub mod Seating
pub mod Pairing
pub mod Talked
pub mod TopPlayed
pub mod TopEnding
pub mod TopPromise
pub mod TopShipping
pub mod Lending
pub mod Examples
