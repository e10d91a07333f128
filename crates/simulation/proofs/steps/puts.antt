-- Lemmas on puts.
mod Words
pub mod Leads
