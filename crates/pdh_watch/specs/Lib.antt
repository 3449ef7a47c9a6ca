pub mod Kinds
pub mod Seen
pub mod Monitors
pub mod MonitorLaws
