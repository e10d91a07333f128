pub mod Sweeping
pub mod Ticks
pub mod Replaced
