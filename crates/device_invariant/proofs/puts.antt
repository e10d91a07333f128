-- Lemmas on puts.
pub mod Slots
