pub mod Following
pub mod Numbers
pub mod Rows
pub mod Telling
pub mod laws
