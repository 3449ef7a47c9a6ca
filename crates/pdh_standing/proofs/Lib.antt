pub mod Tallies
pub mod Walking
