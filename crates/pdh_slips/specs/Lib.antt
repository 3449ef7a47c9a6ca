pub mod Logs
pub mod laws
