use Rattle.std.proofs.Common.{◌+◌, ◌≤◌, ◌∷◌, [], ℕ, List, ap, arith, get_or, length, length-append, ◌∙◌}
use Rattle.evac_law.specs.declared.model.Model.{Model}
use Rattle.evac_law.proofs.SumLemmas.{sum_below-more}
use Rattle.replan.specs.Committed.{gone_by, moves_before}
use Rattle.replan.proofs.Running.{arriving_at, gone_fits, pushed, running}
use Rattle.replan.proofs.gone.gone_after.Goals as goal

pub overflow_cast-out : goal.overflow_cast-out
overflow_cast-out g c =
    let stands = c.requires.stands in
    let in_time : c.loop-moment.moment ≤ c.args.layout.now.horizon =
    omega (arith, c.loop-moment-test.true, ap (λ (x : Model). x.horizon) c.model.ensures.same) in
    let fits = gone_fits c.args.layout.now (g.F.Standing.stand c.args.standing.now).plan c.args.from stands.valid stands.plan
    c.loop-moment.moment (get_or c.args.gone.now c.loop-moment.moment 0) c.loop-moment.people c.arrivals-people.result in_time
    (c.requires.few c.loop-moment.moment in_time) c.loop-moment.invariant.counted c.arrivals-people.ensures.arrivals in
    omega (arith, fits)

pub loop-moment-preserved : goal.loop-moment-preserved
loop-moment-preserved g c =
    let m = c.args.layout.now in
    let p = (g.F.Standing.stand c.args.standing.now).plan in
    let t = c.loop-moment.moment in
    let after = c.loop-moment.after.items in
    let gone = c.args.gone.now in
    let w = c.from.result + (c.loop-moment.people + c.arrivals-people.result) in
    let long = c.loop-moment.invariant.size in
    let counted = c.loop-moment.invariant.counted in
    let arrivals = c.arrivals-people.ensures.arrivals in
    let whole = running m p c.args.from c.requires.stands.valid c.requires.stands.plan t c.loop-moment.people c.arrivals-people.result counted arrivals in
    record {
      counted = omega (arith, counted, arrivals, sum_below-more (arriving_at m (moves_before c.args.from p)) t);
      small = omega (arith, c.loop-moment.invariant.small, c.arrivals-people.ensures.small);
      size = omega (arith, ap length c.in_ok-push.ensures.items, length-append after (w ∷ []), long);
      done = λ k l. ap (λ (xs : List ℕ). get_or xs k 0) c.in_ok-push.ensures.items
          ∙ pushed gone after (gone_by m p c.args.from) w t long c.loop-moment.invariant.done (omega (arith, whole, c.from.ensures)) k l;
    }
