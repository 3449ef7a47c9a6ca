pub mod Events
pub mod Checking
pub mod Line
