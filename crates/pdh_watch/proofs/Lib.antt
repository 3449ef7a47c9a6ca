pub mod Showing
pub mod KindNames
