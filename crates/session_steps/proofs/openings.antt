-- Lemmas on opening.
pub mod States
