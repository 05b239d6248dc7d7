use Rattle.std.proofs.Common.{subst, sym, ◌∙◌}
use Rattle.residual_net.specs.declared.end.End.{End}
use Rattle.residual_net.specs.Legs.{waits_to}
use Rattle.residual_net.specs.Route.{IsPushed}
use Rattle.residual_net.proofs.Steps.{push_none}
use Rattle.residual_net.proofs.grid.Grid.shift_waits_to.Goals as goal

pub returns-in-Source-clause-pushed : goal.returns-in-Source-clause-pushed
returns-in-Source-clause-pushed c =
    subst (λ (e : End). IsPushed c.args.self.now c.args.self.now (waits_to e c.args.since) c.args.people) (sym c.in-Source.is ∙ c.start.ensures)
    (push_none c.args.self.now c.args.people)

pub returns-in-Door-clause-pushed : goal.returns-in-Door-clause-pushed
returns-in-Door-clause-pushed c =
    subst (λ (e : End). IsPushed c.args.self.now c.args.self.now (waits_to e c.args.since) c.args.people) (sym c.in-Door.is ∙ c.start.ensures)
    (push_none c.args.self.now c.args.people)
