pub mod Kept
pub mod Shown
pub mod Links
pub mod Laws
