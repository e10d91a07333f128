pub mod Stands
pub mod Runs
