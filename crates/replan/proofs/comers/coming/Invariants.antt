use Rattle.std.proofs.Common.{◌≡◌, ◌*◌, ◌^◌, ◌≤◌, ◌<◌, take, length}
use Rattle.std.specs.List.{sum_by}
use Rattle.time_expansion.specs.Expansion.{arcs_to}
use Rattle.plan_layout.specs.Layouts.{shape_of}
use Rattle.replan.specs.Standing.{arriving_by}
use Rattle.replan.proofs.comers.coming.Given as goal

abbrev pub invariant-loop-arc : goal.invariant-loop-arc
invariant-loop-arc g l = record {
  arcs : l.arc-items ≡ arcs_to (shape_of l.layout) l.node;
  few : length l.arc-items < 2 ^ 11;
  sum : l.people ≡ sum_by (arriving_by l.layout (g.F.Standing.stand l.standing).plan l.from l.moment) (take l.arc-index l.arc-items);
  small : l.people ≤ l.arc-index * 2 ^ 32;
}
