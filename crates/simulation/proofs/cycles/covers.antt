-- Lemmas on the committer's ticks, up to the one that covers a batch.
pub mod Stages
pub mod LineSums
pub mod LineCounts
pub mod LineOrder
pub mod LinesStay
pub mod Ticks
