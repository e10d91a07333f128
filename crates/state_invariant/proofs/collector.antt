-- Lemmas on visits of the collector, and on its sweeps.
pub mod Garbage
pub mod Kept
