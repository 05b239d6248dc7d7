use Rattle.residual_net.proofs.LastArrival as last
use Rattle.residual_net.proofs.laws.arrived_rises.Goals as goal

pub returns : goal.returns
returns c w j k l = last.arrived_rises w j k l
