mod Applied
