-- Lemmas on opening.
pub mod Shown
pub mod LiveIndex
