pub mod Bits
pub mod BitOut
