use Rattle.residual_net.proofs.LastArrival.{arrived_by_last, last_by_arrived}
use Rattle.residual_net.proofs.laws.last_is_arrival.Goals as goal

pub returns : goal.returns
returns c w k net = ((λ e. last_by_arrived w net k e), (λ l. arrived_by_last w net k l))
