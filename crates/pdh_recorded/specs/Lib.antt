pub mod Demux
pub mod Disturb
pub mod Inspect
pub mod Smooth
pub mod DemuxSteps
pub mod DisturbSteps
pub mod ShowSteps
pub mod SmoothSteps
