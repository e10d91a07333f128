pub mod Plain
pub mod ReportedReplies
pub mod Stops
pub mod Chains
pub mod Parts
