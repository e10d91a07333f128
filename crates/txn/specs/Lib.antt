pub mod WriteSets
pub mod Tables
pub mod Transactions
pub mod InFlight
pub mod DrawnCommits
