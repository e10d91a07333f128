-- Lemmas on visits of the collector, and on its sweeps.
pub mod Fences
pub mod Zeroing
