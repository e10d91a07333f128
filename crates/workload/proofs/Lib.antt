pub mod Counted
pub mod Acknowledged
pub mod Agreed
pub mod Opens
pub mod Made
pub mod Tasked
