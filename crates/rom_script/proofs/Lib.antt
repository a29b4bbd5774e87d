-- Lemmas on what lines ask for, on what texts determine, and on drills.
pub mod Asking
pub mod Separators
pub mod Members
pub mod Determined
pub mod Drills
pub mod GroupLines
pub mod Queued
pub mod Sums
pub mod Summaries
pub use Rattle.rom_text.proofs.Prints
pub mod Showing
