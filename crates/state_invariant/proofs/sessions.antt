-- Lemmas on steps that change only one session.
pub mod Changes
pub mod Steps
