-- Lemmas on the committer's ticks, up to the one that covers a batch.
pub mod Chosen
pub mod Kept
pub mod Shown
pub mod Links
