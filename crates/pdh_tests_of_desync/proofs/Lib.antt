mod FourSmooth
