-- Lemmas on stamps.
pub mod Drawn
