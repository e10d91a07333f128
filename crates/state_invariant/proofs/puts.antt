-- Lemmas on puts.
pub mod Shown
pub mod Links
