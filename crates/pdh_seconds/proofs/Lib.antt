pub mod Waiting
pub mod Tallies
pub mod Steps
pub mod Worked
