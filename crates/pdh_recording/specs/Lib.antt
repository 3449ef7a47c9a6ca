pub mod Given
pub mod Opening
pub mod Parts
pub mod Seen
