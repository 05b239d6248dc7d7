use Rattle.std.proofs.Common.{◌≡◌, map, take}
use Rattle.evac_law.specs.declared.model.ArcRow.{ArcRow}
use Rattle.residual_net.proofs.start.travels_of.Given as goal

abbrev pub invariant-loop-arc : goal.invariant-loop-arc
invariant-loop-arc l = l.travels.items ≡ map (λ (a : ArcRow). a.travel) (take l.arc-index l.arc-items)
