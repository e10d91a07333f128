-- Lemmas on what is read.
pub mod Scans
pub mod Snapshots
