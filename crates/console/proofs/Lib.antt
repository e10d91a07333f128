mod KeptHistory
mod Files
mod Rows
mod Grown
mod Obeyed
mod Repeating
mod IdleTicks
mod Lives
mod Input
mod BadLine
mod Refusals
mod Scripts
pub mod Working
