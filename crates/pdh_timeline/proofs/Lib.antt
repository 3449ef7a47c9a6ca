pub mod Adding
pub mod Nexting
pub mod Standings
pub mod Worked
