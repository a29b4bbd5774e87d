-- A ledger: what its updates do and are told, their words, lines and texts.
pub mod State
pub mod Codes
pub mod Tagged
pub mod Ledger
pub mod Does
pub mod Lines
pub mod Asking
pub mod Longest
pub mod Texts
pub mod Laws
pub mod Same
