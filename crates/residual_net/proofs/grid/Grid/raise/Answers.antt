use Rattle.std.proofs.Common.{◌+◌, refl, arith}
use Rattle.residual_net.specs.Network.{limit_at, step_over}
use Rattle.residual_net.proofs.Steps.{push_one}
use Rattle.residual_net.proofs.grid.Grid.raise.Goals as goal

pub returns-clause-pushed : goal.returns-clause-pushed
returns-clause-pushed c =
    rw c.put.ensures.put
    (push_one c.args.self.now (step_over c.args.place) c.args.people (record { flow = c.get.result.flow + c.args.people; limit = limit_at c.args.self.now c.args.place })
    c.get.ensures.grid c.requires.place (λ e. omega (arith, c.get.ensures.flow)) (λ e. absurd (cc)) refl)
