pub mod Entries
pub mod Reading
pub mod Walking
pub mod Counting
pub mod Keyed
pub mod Placed
