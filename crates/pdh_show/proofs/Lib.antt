pub mod Walks
pub mod Joins
pub mod Taking
