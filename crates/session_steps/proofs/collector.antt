-- Lemmas on visits of the collector, and on its sweeps.
pub mod Slots
pub mod Readers
pub mod Replaced
pub mod Agrees
pub mod Visits
pub mod Passing
