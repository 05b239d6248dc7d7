use Rattle.residual_net.proofs.Effects.{cancel_lowers, fewer_sent}
use Rattle.residual_net.proofs.laws.cancel_lowers_arrivals.Goals as goal

pub returns : goal.returns
returns c w v p path x k cancelled flow = (cancel_lowers w v p path x k cancelled flow, fewer_sent w v p path x cancelled)
