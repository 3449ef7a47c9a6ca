pub mod Children
pub mod Gathered
pub mod laws
