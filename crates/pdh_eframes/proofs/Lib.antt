pub mod Worked
pub mod WorkedSets
