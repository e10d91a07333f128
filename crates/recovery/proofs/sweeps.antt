-- Lemmas on the sweep of gaps while opening.
pub mod Slots
pub mod Crashes
pub mod Hits
