pub mod Chains
pub mod Sending
pub mod Events
pub mod Slips
pub mod StepOrder
pub mod Receiving
