pub mod Runs
pub mod Columns
pub mod Pieces
pub mod Tables
pub mod WordTables
pub mod Taking
pub mod Turns
