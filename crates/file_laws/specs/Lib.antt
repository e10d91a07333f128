pub mod Found
pub mod Lives
