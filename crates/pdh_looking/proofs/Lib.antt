pub mod Cuts
pub mod Fitting
pub mod Parts
pub mod Ranking
pub mod Tables
