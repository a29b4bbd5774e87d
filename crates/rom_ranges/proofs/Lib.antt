-- Lemmas on ranges: how many offsets they hold, which of them are near an offset, and what one offset more makes of them.
pub mod Counted
pub mod Near
pub mod Adding
pub mod Placed
