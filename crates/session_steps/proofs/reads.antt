-- Lemmas on what is read.
pub mod Rows
pub mod Scans
pub mod Tables
pub mod Beginnings
pub mod Pages
