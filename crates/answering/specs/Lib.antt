pub mod Earned
