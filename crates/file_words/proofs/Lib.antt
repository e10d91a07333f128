pub mod Bytes
pub mod Syncs
pub mod Writes
pub mod Zeros
