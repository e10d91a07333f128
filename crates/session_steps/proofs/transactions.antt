-- Lemmas on steps that change one transaction alone.
pub mod Sets
pub mod Agrees
pub mod Steps
