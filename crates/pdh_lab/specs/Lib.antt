pub mod Drill
pub mod Steps
