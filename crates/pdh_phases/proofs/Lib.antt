pub mod Signals
pub mod RunLaws
pub mod Confirming
pub mod Counting
pub mod Searching
pub mod PlaneLaws
pub mod Taking
