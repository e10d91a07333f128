pub mod Runs
pub mod Standing
pub mod draws
pub mod StepsWithoutStores
pub mod Leading
pub mod stamps
pub mod puts
pub mod Counting
