pub mod Telling
pub mod Duties
pub mod Keeping
pub mod Acts
pub mod Chain
pub mod laws
