-- Lemmas on any number of lives.
pub mod Laws
pub mod Lost
pub mod Replies
