pub mod Signals
pub mod Searching
pub mod OpenGap
pub mod Aligning
pub mod View
