pub mod Schedules
pub mod Clock
pub mod Drill
pub mod Mux
pub mod ScheduleSteps
pub mod MuxSteps
