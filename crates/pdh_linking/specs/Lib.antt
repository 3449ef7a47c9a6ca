pub mod Duplex
pub mod DuplexSteps
