mod FourLeaves
