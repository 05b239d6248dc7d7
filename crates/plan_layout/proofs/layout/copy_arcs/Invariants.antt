use Rattle.std.proofs.Common.{◌≡◌, take}
use Rattle.plan_layout.proofs.layout.copy_arcs.Given as goal

abbrev pub invariant-loop-arc : goal.invariant-loop-arc
invariant-loop-arc l = l.copies.items ≡ take l.arc-index l.arcs
