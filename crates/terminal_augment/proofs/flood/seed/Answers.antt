use Rattle.std.proofs.Common.{sym, ◌∙◌}
use Rattle.terminal_augment.proofs.FloodLemmas.{seeded_later, seeded_more}
use Rattle.terminal_augment.proofs.flood.seed.Goals as goal

pub returns-then-is_exit-clause-seeded : goal.returns-then-is_exit-clause-seeded
returns-then-is_exit-clause-seeded c old =
    seeded_more c.args.net.now c.expand_in.new.labels c.args.k c.args.node (sym c.is_exit.ensures ∙ c.if-is_exit.true) c.expand_in.ensures.done
    (seeded_later c.args.net.now c.args.node c.expand_in.ensures.grown old)
