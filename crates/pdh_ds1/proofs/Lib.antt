mod PlanLaws
mod CrcLaws
mod WordLaws
pub mod PackingLaws
pub mod MachineLaws
pub mod FitLaws
pub mod FramerLaws
mod Worked
mod WorkedFar
