-- Lemmas on steps of every kind.
pub mod Refusals
pub mod Kept
pub mod Shown
pub mod ShownStays
pub mod Links
pub mod LinksStay
