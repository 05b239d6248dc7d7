use Rattle.std.proofs.Common.{◌≡◌, ◌+◌, true, false, refl, arith}
use Rattle.residual_net.specs.Network.{flow_at, limit_at}
use Rattle.residual_net.proofs.Steps.{push_one}
use Rattle.residual_net.proofs.grid.Grid.shift.Goals.{then-step, else-step}
use Rattle.residual_net.proofs.grid.Grid.shift.Goals as goal

pub returns-clause-pushed : goal.returns-clause-pushed
returns-clause-pushed c =
    let w = c.args.self.now in
    let r = c.args.step in
    let on : r.back ≡ false → c.if-step.flow ≡ flow_at w r.place + c.args.people =
    λ e. elim c.if-step.branch [
      | then-step b ↦ absurd (cc)
      | else-step b ↦ omega (arith, b.flow-is, c.get-old.ensures.flow)
    ] in
    let back : r.back ≡ true → c.if-step.flow + c.args.people ≡ flow_at w r.place =
    λ e. elim c.if-step.branch [
      | then-step b ↦
          let enough = rw e at c.requires.room in
          omega (arith, b.flow-is, c.get-old.ensures.flow, enough)
      | else-step b ↦ absurd (cc)
    ] in
    rw c.put.ensures.put
    (push_one w r c.args.people (record { flow = c.if-step.flow; limit = limit_at w r.place }) c.get-old.ensures.grid c.requires.place on back
    refl)
