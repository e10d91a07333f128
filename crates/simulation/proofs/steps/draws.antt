-- Lemmas on draws.
pub mod Leads
