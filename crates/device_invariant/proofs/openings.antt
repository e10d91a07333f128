-- Lemmas on opening.
pub mod Upheld
