pub mod Availability
pub mod Counting
pub mod Standing
