-- Lemmas on what is read.
pub mod Visits
pub mod Slots
pub mod LiveRows
pub mod HeldSlots
pub mod Images
