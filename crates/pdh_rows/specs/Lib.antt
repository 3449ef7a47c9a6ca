pub mod Flows
pub mod Rows
pub mod Stored
pub mod Outside
pub mod Bounds
pub mod Inside
