-- Lemmas on stamps.
pub mod Steps
