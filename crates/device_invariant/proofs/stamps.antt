-- Lemmas on stamps.
pub mod Stamped
pub mod Slots
