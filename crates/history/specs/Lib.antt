pub mod Rules
pub mod Marks
