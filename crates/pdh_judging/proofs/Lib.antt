pub mod Clean
pub mod Steps
pub mod Worked
