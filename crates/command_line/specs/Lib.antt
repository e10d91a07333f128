pub mod Numbers
pub mod Rows
pub mod Lines
pub mod ImageFile
pub mod Texts
pub mod Words
pub mod Help
pub mod Scripts
