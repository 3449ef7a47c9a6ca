pub mod Runs
pub mod DutyLaws
pub mod ToldCodes
pub mod Noting
pub mod Worked
pub mod CalmLaws
