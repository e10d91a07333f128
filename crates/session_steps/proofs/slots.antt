-- Lemmas on the slots that sessions hold.
pub mod Held
pub mod Owned
pub mod Freed
pub mod Freeing
