pub mod Visits
pub mod Garbage
pub mod Laws
