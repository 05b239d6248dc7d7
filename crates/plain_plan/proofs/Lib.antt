mod Past
