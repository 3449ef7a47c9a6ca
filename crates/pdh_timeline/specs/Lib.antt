pub mod Touches
pub mod Marks
pub mod Standing
