pub mod Lines
pub mod Held
