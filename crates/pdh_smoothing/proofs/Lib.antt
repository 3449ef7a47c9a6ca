mod MarkLaws
mod RowLaws
mod Told
mod Marked
mod Received
mod Working
pub mod AsciiRows
pub mod Single
pub mod PutLaws
