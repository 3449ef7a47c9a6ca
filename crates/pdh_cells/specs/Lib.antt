pub mod Lanes
pub mod Contents
pub mod Pictures
pub mod Standing
pub mod Rows
