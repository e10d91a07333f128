pub mod Conversations
pub mod Exchanges
pub mod Opened
