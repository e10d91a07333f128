-- Lemmas on the committer's ticks, up to the one that covers a batch.
pub mod Ticks
pub mod Cycles
