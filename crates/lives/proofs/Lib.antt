pub mod Final
pub mod Taken
pub mod Ends
pub mod Stops
pub mod Chains
