pub mod FourTails
