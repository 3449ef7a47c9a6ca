pub mod Meaning
pub mod Tail
pub mod Node
pub mod Places
pub mod Merging
pub mod laws
