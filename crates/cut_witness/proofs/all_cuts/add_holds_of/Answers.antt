use Rattle.std.proofs.Common.{ℕ, ◌+◌, ◌*◌, ◌^◌, ap, ap₂, ◌∙◌, cond, arith}
use Rattle.evac_law.specs.Limits.{horizon_limit}
use Rattle.cut_witness.specs.Shares.{hold_share}
use Rattle.cut_witness.proofs.Nets.{raised_as, raised_end, raised_step}
use Rattle.cut_witness.proofs.all_cuts.add_holds_of.Goals as goal

pub loop-moment-preserved : goal.loop-moment-preserved
loop-moment-preserved c =
    let share = λ (k : ℕ). hold_share c.args.model.now c.args.labels.now k c.args.node in
    let i = c.loop-moment.moment in
    let before = c.loop-moment.invariant in
    let periods = before.periods ∙ c.requires.summable.periods in
    raised_step share i (2 ^ 33) ((i + 1) * 2 ^ 33) before
    (raised_as (λ k. share k i) (2 ^ 33)
    (λ k l. ap₂ (λ b r. cond b r 0) (c.hold_span-span.ensures k (omega (arith, l, periods))) (ap (λ r. r.capacity) c.node-capacity.ensures))
    (omega (arith, c.node-capacity.type_inv))
    (record { periods = c.add.ensures.periods; net = c.add.ensures.net; bounded = c.add.ensures.turnover }))
    (omega arith)

pub returns : goal.returns
unfolding horizon_limit
returns c =
    raised_end (λ k. hold_share c.args.model.now c.args.labels.now k c.args.node) c.loop-moment.moment c.args.model.now.horizon (2 ^ 49) (omega arith) (omega arith)
    (omega (arith, c.requires.summable.valid.horizon)) c.loop-moment.invariant
