pub mod FarStore
pub mod Smooth
pub mod Held
pub mod States
pub mod FarHolds
pub mod FarNode
pub mod laws
