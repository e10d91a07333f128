pub mod Statuses
pub mod Frames
pub mod Openings
