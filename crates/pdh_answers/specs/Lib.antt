pub mod Names
pub mod Answer
pub mod Lines
pub mod SlipLines
pub mod laws
