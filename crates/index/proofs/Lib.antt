pub mod Changes
pub mod Removals
pub mod Slots
pub mod Lookups
pub mod Bounds
pub mod Ways
pub mod LiveKeys
pub mod Reaching
