-- Lemmas on what is shown.
pub mod Showing
pub mod Promising
