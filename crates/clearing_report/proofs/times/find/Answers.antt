use Rattle.std.proofs.Common.{Some, ap, sym, subst}
use Rattle.std.proofs.Math.ListN.{set}
use Rattle.evac_law.specs.declared.model.ArcRow.{ArcRow}
use Rattle.clearing_report.specs.Distances.{AreTimes}
use Rattle.clearing_report.proofs.TimeLemmas.{are_on}
use Rattle.clearing_report.proofs.times.find.Goals as goal

pub loop-way-preserved : goal.loop-way-preserved
loop-way-preserved c =
    let m = c.args.model.now in
    let a = c.in-Some.way.arc in
    let d = c.in-Some.way.time in
    let from = ap (λ (r : ArcRow). r.from) c.arc.ensures in
    subst (λ n. AreTimes m (set c.loop-way.times n (Some d))) (sym from)
    (are_on m c.loop-way.times c.requires.valid c.loop-way.invariant a d c.in-Some.ensures)
