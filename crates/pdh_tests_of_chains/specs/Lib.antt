pub mod FourLeaves
