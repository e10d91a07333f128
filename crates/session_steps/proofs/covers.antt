-- Lemmas on the committer's ticks, up to the one that covers a batch.
pub mod Index
pub mod Batch
pub mod Lines
