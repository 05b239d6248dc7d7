use Rattle.std.proofs.Common.{◌≡◌, ◌∙◌, ◌+◌, cond, max, get_or, ap, sym, subst, arith, ℕ}
use Rattle.std.proofs.lemmas.Bool.{lt-ltb, le-ltb}
use Rattle.bottleneck_report.specs.Covers.{covers}
use Rattle.bottleneck_report.proofs.CoverLemmas.{IsFar, far_covers, far_next, filter-below}
use Rattle.bottleneck_report.proofs.cover.count.Goals as goal
use Rattle.bottleneck_report.proofs.cover.count.Goals.{then-period-far, else-period-far}

pub loop-period-preserved : goal.loop-period-preserved
loop-period-preserved c =
    let xs = c.args.ends.now in
    let n = c.loop-period.period in
    let reach : c.max-far.result ≡ max c.loop-period.far (get_or xs n 0) = c.max-far.ensures ∙ ap (λ j. max c.loop-period.far (get_or xs j 0)) c.from.ensures in
    let far : IsFar xs (n + 1) c.max-far.result = subst (λ z. IsFar xs (n + 1) z) (sym reach) (far_next xs n c.loop-period.far c.loop-period.invariant.far) in
    let covered = far_covers xs n c.max-far.result far in
    let more = filter-below (covers xs) n in
    elim c.if-period-far.branch [
      | then-period-far w ↦ record {
        few = omega (arith, w.count-is, c.loop-period.invariant.few);
        counted =
            let here : ◌≡◌ {A = ℕ} (cond (covers xs n) 1 0) 1 = ap (λ b. cond b 1 0) (covered ∙ lt-ltb n c.max-far.result w.if-period-far.true) in
            omega (arith, w.count-is, c.loop-period.invariant.counted, more, here);
        far = far;
      }
      | else-period-far w ↦ record {
        few = omega (arith, w.count-is, c.loop-period.invariant.few);
        counted =
            let here : ◌≡◌ {A = ℕ} (cond (covers xs n) 1 0) 0 = ap (λ b. cond b 1 0) (covered ∙ le-ltb n c.max-far.result w.if-period-far.false) in
            omega (arith, w.count-is, c.loop-period.invariant.counted, more, here);
        far = far;
      }
    ]
