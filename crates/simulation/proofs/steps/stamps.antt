-- Lemmas on stamps.
mod Writes
pub mod Leads
pub mod Lines
