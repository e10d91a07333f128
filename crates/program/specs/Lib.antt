pub mod Exits
pub mod Journals
