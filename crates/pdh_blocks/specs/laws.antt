pub mod Counting
pub mod PortProps
pub mod PortLaws
