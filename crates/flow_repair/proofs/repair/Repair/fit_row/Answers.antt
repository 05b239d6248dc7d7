use Rattle.std.proofs.Common.{◌+◌, arith, subst}
use Rattle.residual_net.specs.declared.place.Place.{Place}
use Rattle.residual_net.specs.Site.{same_place}
use Rattle.residual_net.specs.Start.{place_of}
use Rattle.residual_net.proofs.Begin.{row_so_far, row_step}
use Rattle.flow_repair.specs.Repairing.{Refits}
use Rattle.flow_repair.proofs.Repairing.{refits_by, refits_then, still_can_fit, whole_row}
use Rattle.flow_repair.proofs.repair.Repair.fit_row.Goals as goal

pub fit_place-requires-clause-fittable : goal.fit_place-requires-clause-fittable
fit_place-requires-clause-fittable g c = still_can_fit c.loop-moment.invariant c.requires.fittable

pub loop-moment-preserved : goal.loop-moment-preserved
loop-moment-preserved g c =
    let s = c.loop-moment.self in
    let t = c.fit_place.new.self in
    let k = c.args.kind in
    let n = c.args.number in
    let i = c.loop-moment.moment in
    let p = place_of k n i in
    let here : Refits (same_place p) s t = subst (λ (q : Place). Refits (same_place q) s t) c.place_of.ensures c.fit_place.ensures in
    refits_then (row_so_far k n (i + 1)) c.loop-moment.invariant here (λ q _. row_step k n i q)

pub returns : goal.returns
returns g c = grind (arith, refits_by, whole_row)
