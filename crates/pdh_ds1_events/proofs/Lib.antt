pub mod CheckLaws
pub mod LineLaws
