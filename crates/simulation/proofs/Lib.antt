pub mod sessions
pub mod steps
pub mod cycles
pub mod visits
