pub mod Top
pub mod Saying
