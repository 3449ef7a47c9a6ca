pub mod Reversing
