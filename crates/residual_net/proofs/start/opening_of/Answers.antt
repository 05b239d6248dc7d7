use Rattle.std.proofs.Common.{sym, subst, refl}
use Rattle.residual_net.specs.declared.start.Kind.{Kind}
use Rattle.residual_net.specs.Start.{IsOpening}
use Rattle.residual_net.proofs.Begin.{supply_opening}
use Rattle.residual_net.proofs.start.opening_of.Goals as goal

pub returns-else-not-is_empty-2 : goal.returns-else-not-is_empty-2
returns-else-not-is_empty-2 c =
    subst (λ (k : Kind). IsOpening c.args.model.now k c.args.number (record { moments = 1; limit = c.entry-limit.result })) (sym c.in-Supply.is)
    (supply_opening c.args.model.now c.args.number c.entry-limit.result (c.if-not-is_empty-2.ensures.0 refl) c.entry-limit.ensures)
