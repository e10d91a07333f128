pub mod Load
pub mod Tasks
