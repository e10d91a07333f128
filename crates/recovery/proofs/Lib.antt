pub mod openings
pub mod sweeps
pub mod reads
pub mod formats
