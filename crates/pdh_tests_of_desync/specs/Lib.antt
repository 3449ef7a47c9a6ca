pub mod FourSmooth
