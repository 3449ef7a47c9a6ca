pub mod Words
pub mod Judging
pub mod Levels
pub mod Looking
pub mod Nearest
pub mod Answers
