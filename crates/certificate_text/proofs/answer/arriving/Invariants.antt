use Rattle.std.proofs.Common.{◌≡◌, ◌≤◌, ◌*◌, ◌^◌, sum_by, take}
use Rattle.evac_law.proofs.Curve.{arriving_by}
use Rattle.certificate_text.proofs.answer.arriving.Given as goal

abbrev pub invariant-loop-arc : goal.invariant-loop-arc
invariant-loop-arc g l = record {
  value : l.people ≡ sum_by (arriving_by l.model (g.F.Standing.stand l.standing).plan l.moment) (take l.arc-index l.arcs);
  few : l.people ≤ l.arc-index * 2 ^ 32;
}
