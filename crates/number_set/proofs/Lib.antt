pub mod Words
pub mod Summaries
pub mod Members
