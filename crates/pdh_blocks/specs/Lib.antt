pub mod Leaves
pub mod State
pub mod Lists
pub mod Held
pub mod Kept
pub mod Done
pub mod Opened
pub mod laws
