-- Lemmas on stamps.
pub mod Kept
pub mod Stamped
pub mod Shown
