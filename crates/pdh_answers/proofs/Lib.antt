pub mod Lines
pub mod FileNames
