-- What the answers of several claims say.
pub mod Lines
pub mod Schedules
