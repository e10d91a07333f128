-- Lemmas on what is read.
pub mod Images
