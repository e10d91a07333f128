-- Lemmas on the committer's ticks, up to the one that covers a batch.
pub mod Batches
pub mod Slots
pub mod Ticks
pub mod Record
