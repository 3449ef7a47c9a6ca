pub mod Codecs
pub mod Texts
pub mod E1
pub mod Ds1
pub mod Steps
pub mod Delivering
pub mod Streaming
pub mod Inspect
