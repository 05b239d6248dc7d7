use Rattle.std.proofs.Common.{drop, take}
use Rattle.residual_net.specs.Legs.{IsShiftable, steps_of_legs}
use Rattle.residual_net.specs.Network.{IsGrid}
use Rattle.residual_net.specs.Route.{IsPushed}
use Rattle.residual_net.proofs.net.shift_legs.Given as goal

abbrev pub invariant-loop-leg : goal.invariant-loop-leg
invariant-loop-leg l = record {
  pushed : IsPushed l.fn.grid l.grid (steps_of_legs l.fn.grid.site (take l.leg-index l.legs)) l.people;
  left : IsShiftable l.grid (steps_of_legs l.fn.grid.site (drop l.leg-index l.legs)) l.people;
  grid : IsGrid l.grid;
}
