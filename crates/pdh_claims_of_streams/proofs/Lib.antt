-- What the answers of several claims say.
pub mod Turns
pub mod Lines
pub mod Blocks
