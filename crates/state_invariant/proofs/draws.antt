-- Lemmas on draws.
pub mod Kept
pub mod Links
