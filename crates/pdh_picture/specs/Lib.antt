pub mod Cells
pub mod Names
pub mod Runs
pub mod Sizes
pub mod Steps
pub mod Ticks
