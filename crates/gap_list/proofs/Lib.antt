pub mod WithGap
pub mod Tidy
