pub mod AligningLaws
pub mod SignalLaws
mod StartLaws
pub mod SearchLaws
mod OpenGaps
pub mod Turns
pub mod ReadyFrames
mod Waiting
mod Passing
pub mod PieceGrowth
