pub mod WithoutOperations
pub mod Visits
pub mod Counting
pub mod Garbage
