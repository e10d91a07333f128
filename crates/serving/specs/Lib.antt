pub mod Refusals
pub mod Served
pub mod Conversations
