pub mod Fine
pub mod Halves
pub mod Adding
pub mod Keeping
pub mod Drawing
