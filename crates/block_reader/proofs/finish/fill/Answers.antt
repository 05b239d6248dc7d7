use Rattle.std.proofs.Common.{◌≡◌, ap, ◌∙◌, inl, inr, arith}
use Rattle.std.proofs.lemmas.Bool.{cases_lt}
use Rattle.block_reader.specs.Drafts.{filled}
use Rattle.block_reader.proofs.LabelLemmas.{filled-more, filled-none, filled-short, set-full}
use Rattle.block_reader.proofs.finish.fill.Goals as goal

pub loop-moment-init : goal.loop-moment-init
loop-moment-init c = grind (arith, filled-none)

pub loop-moment-preserved : goal.loop-moment-preserved
loop-moment-preserved c = grind (arith, set-full, filled-more)

pub returns-clause-labels : goal.returns-clause-labels
returns-clause-labels c = λ n t h.
    let inv = c.loop-moment.invariant in
    inv.labels n t h
    ∙ elim (cases_lt c.args.stop c.args.run.moment) [
      | inl b ↦ filled-short c.args.labels.now c.args.run c.loop-moment.moment c.args.stop n t (inv.first (omega arith)) (omega arith)
      | inr b ↦ let e : c.loop-moment.moment ≡ c.args.stop = omega arith in ap (λ k. filled c.args.labels.now c.args.run k n t) e
    ]

pub returns-clause-full : goal.returns-clause-full
returns-clause-full c = c.loop-moment.invariant.full.full
