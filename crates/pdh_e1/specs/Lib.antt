pub mod Crc4
pub mod Multiframe
pub mod Codec
