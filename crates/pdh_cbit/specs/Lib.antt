pub mod Bits
pub mod CBits
pub mod Fields
pub mod Feac
pub mod Channel
