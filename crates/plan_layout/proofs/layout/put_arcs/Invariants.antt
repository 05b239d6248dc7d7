use Rattle.std.proofs.Common.{◌≡◌, length, take}
use Rattle.plan_layout.proofs.layout.put_arcs.Given as goal

abbrev pub invariant-loop-arc : goal.invariant-loop-arc
invariant-loop-arc l = record {
  same : take l.arc l.into ≡ take l.arc l.arcs;
  long : length l.into ≡ length l.arcs;
}
