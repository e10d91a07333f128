pub mod Decoding
mod Forming
pub mod ImageSlots
pub mod Operations
mod Padding
pub mod Parts
pub mod Sweeps
