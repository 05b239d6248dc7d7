use Rattle.std.proofs.Common.{◌≡◌, map, take}
use Rattle.plan_layout.specs.Layouts.{ends_of}
use Rattle.plan_layout.proofs.layout.ends_of.Given as goal

abbrev pub invariant-loop-arc : goal.invariant-loop-arc
invariant-loop-arc l = l.ends.items ≡ map ends_of (take l.arc-index l.arcs)
