pub mod InterleavingLaws
pub mod TurnLaws
pub mod DealtLaws
pub mod RowLaws
pub mod BitLaws
pub mod SwapLaws
pub mod GatherLaws
pub mod EightLaws
