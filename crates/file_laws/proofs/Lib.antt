pub mod Covers
pub mod Found
pub mod FoundRuns
pub mod Finding
pub mod Lives
