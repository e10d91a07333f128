pub mod Numbers
pub mod Lines
pub mod ImageFiles
pub mod Rows
pub mod Scripts
pub mod Help
pub mod Matches
