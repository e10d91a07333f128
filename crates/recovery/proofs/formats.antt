-- Lemmas on formats.
pub mod Stages
