use Rattle.std.proofs.Common.{◌∙◌, arith}
use Rattle.route_decompose.proofs.Handing.{opens, whole}
use Rattle.route_decompose.proofs.routes.Routes.begin.Goals as goal

pub invariant_of-self : goal.invariant_of-self
invariant_of-self g c = grind (arith, opens)

pub returns : goal.returns
returns g c =
    whole c.args.model.now (g.F.Standing.stand c.args.standing.now) c.fill.new.self c.requires.stands
    (c.fill.ensures.model ∙ c.set_model.ensures.model) c.fill.ensures.stock c.fill.ensures.of _
