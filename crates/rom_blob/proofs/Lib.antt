-- Lemmas on the lines and texts of keys with bytes.
pub mod Words
pub mod Digits
pub mod Asking
pub mod Determined
pub mod Crowds
