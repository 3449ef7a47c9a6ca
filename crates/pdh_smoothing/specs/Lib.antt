pub mod Split
pub mod Again
pub mod Smoothing
pub mod Steps
pub mod laws
