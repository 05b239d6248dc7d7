use Rattle.residual_net.proofs.net.raise.Goals as goal

pub bounds-arrivals-moment : goal.bounds-arrivals-moment
bounds-arrivals-moment c = (c.requires c.in-Door.moment c.in-Door.is).0
