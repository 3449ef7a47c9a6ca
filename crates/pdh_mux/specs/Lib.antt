pub mod Muxed
