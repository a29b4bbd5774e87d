-- Lemmas on streams, digits, lines and steps.
pub mod Prints
pub mod Taking
pub mod Digits
pub mod Numbers
pub mod Pieces
pub mod Handing
pub mod Steps
pub mod Reading
pub mod Naming
pub mod Determined
pub mod Phrases
pub mod RunText
