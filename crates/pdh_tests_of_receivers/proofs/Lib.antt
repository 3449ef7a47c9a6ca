mod FourTails
