use Rattle.std.proofs.Common.{take}
use Rattle.residual_net.specs.Network.{IsGrid}
use Rattle.residual_net.specs.Change.{IsTaken}
use Rattle.residual_net.proofs.cancel.take_all.Given as goal

abbrev pub invariant-loop-step : goal.invariant-loop-step
invariant-loop-step l = record {
  taken : IsTaken l.fn.grid l.grid (take l.step-index l.path) l.people;
  grid : IsGrid l.grid;
}
