pub mod Committing
pub mod Steps
pub mod Ticks
pub mod Usage
pub mod Closing
pub mod Room
pub mod Runs
pub mod Opening
