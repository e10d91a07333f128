-- Lemmas on moves of a device, whichever step makes them.
pub mod Shrinking
pub mod Stores
pub mod Links
pub mod Shown
pub mod Holders
