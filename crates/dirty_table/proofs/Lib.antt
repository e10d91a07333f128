pub mod Sets
pub mod Tables
