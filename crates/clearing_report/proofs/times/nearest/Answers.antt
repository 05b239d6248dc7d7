use Rattle.std.proofs.Common.{◌+◌, arith, sym, subst, refl}
use Rattle.clearing_report.proofs.TimeLemmas.{IsBest, best_all, best_keeps, best_takes}
use Rattle.clearing_report.proofs.times.nearest.Goals as goal
use Rattle.clearing_report.proofs.times.nearest.Goals.{in-Some, in_default}

pub loop-arc-preserved : goal.loop-arc-preserved
loop-arc-preserved c =
    let m = c.args.model.now in
    let times = c.args.times.now in
    let i = c.loop-arc.arc in
    elim c.match-way_by.branch [
      | in-Some w ↦
          subst (λ b. IsBest m times (i + 1) b) (sym w.best-is)
          (best_takes m times i c.loop-arc.best (record { arc = i; time = w.in-Some.time }) w.shorter.result c.loop-arc.invariant w.in-Some.ensures refl w.shorter.ensures.one
          w.shorter.ensures.short w.shorter.ensures.best)
      | in_default w ↦ subst (λ b. IsBest m times (i + 1) b) (sym w.best-is) (best_keeps m times i c.loop-arc.best c.loop-arc.invariant w.in_default.ensures)
    ]

pub returns : goal.returns
returns c =
    best_all c.args.model.now c.args.times.now c.loop-arc.arc c.loop-arc.best (omega (arith, c.loop-arc-test.false, c.arc_count-arc-end.ensures.count))
    c.loop-arc.invariant
