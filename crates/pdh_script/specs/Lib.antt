pub mod Scripts
pub mod RowText
pub mod ScriptText
pub mod Stored
pub mod Applying
pub mod Bending
pub mod RowsLeft
