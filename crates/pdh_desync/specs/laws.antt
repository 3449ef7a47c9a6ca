-- Laws that ghost members and the crates above cite.
pub mod FarBounds
pub mod PieceSteps
pub mod SmoothLaws
pub mod SmoothSound
