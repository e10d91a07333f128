-- Lemmas on visits of the collector, and on its sweeps.
pub mod Visits
pub mod Rounds
