-- Lemmas on closes.
pub mod Parts
pub mod Stamps
pub mod Ticks
pub mod Cycle
pub mod Whole
