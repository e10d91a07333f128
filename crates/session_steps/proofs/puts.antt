-- Lemmas on puts.
pub mod Steps
