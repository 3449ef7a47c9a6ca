pub mod RowsSeen
pub mod Telling
