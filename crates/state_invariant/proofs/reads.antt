-- Lemmas on what is read.
pub mod Tables
pub mod SweptGaps
