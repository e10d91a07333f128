-- Lemmas on openings.
pub mod GapLists
pub mod Records
pub mod States
pub mod Sweeps
pub mod Updates
