pub mod Interleaving
