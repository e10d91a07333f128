-- Lemmas on draws.
pub mod Snapshots
pub mod Conflicts
pub mod Notes
pub mod Lines
pub mod Agrees
pub mod Steps
