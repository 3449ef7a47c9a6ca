pub mod Frames
pub mod Alignment
pub mod Tracking
pub mod Events
pub mod Machine
pub mod View
