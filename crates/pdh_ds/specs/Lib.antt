pub mod Loss
pub mod Blocks
pub mod Parity
pub mod Plans
pub mod laws
