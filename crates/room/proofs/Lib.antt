pub mod covers
pub mod Rooms
pub mod openings
pub mod Runs
pub mod closes
pub mod Untouched
pub mod Calls
pub mod Passing
