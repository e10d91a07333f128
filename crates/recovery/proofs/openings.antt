-- Lemmas on opening.
pub mod Gaps
pub mod Images
pub mod Faults
pub mod Devices
pub mod Updates
