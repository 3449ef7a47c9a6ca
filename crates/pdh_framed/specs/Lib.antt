pub mod Remainders
pub mod RightFrames
pub mod Taking
