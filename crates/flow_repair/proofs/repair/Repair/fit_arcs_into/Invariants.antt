use Rattle.std.proofs.Common.{eqb, ltb, ◌&&◌}
use Rattle.time_expansion.specs.Expansion.{to_at}
use Rattle.residual_net.specs.Start.{is_kind, row_of}
use Rattle.residual_net.specs.declared.start.Kind.TheVariants as kinds
use Rattle.flow_repair.specs.Repairing.{Refits}
use Rattle.flow_repair.proofs.repair.Repair.fit_arcs_into.Given as goal

abbrev pub invariant-loop-arc : goal.invariant-loop-arc
invariant-loop-arc g l =
    Refits (λ p. (is_kind kinds.Arc p && eqb (to_at l.fn.self.net.now.site.shape (row_of p)) l.node) && ltb (row_of p) l.arc) l.fn.self l.self
