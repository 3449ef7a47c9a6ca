pub mod Counted
pub mod Given
