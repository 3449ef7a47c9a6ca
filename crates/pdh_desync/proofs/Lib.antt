pub mod PassLaws
pub mod FarSteps
pub mod FarGiving
pub mod SmoothSteps
pub mod Quieting
pub mod PiecesFit
pub mod Worked
