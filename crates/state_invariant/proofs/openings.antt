-- Lemmas on openings.
pub mod Kept
