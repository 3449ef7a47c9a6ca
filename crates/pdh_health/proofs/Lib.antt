pub mod Marked
pub mod Lying
pub mod Fitting
pub mod Coursing
pub mod Keeping
pub mod Pushing
pub mod Noting
pub mod Finding
