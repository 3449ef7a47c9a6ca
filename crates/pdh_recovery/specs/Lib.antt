pub mod Recovering
pub mod Losing
pub mod Flipped
pub mod Downwards
