-- Lemmas on closes.
pub mod Covers
pub mod LastPart
pub mod States
