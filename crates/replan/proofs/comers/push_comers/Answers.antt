use Rattle.std.proofs.Common.{◌≤◌, ap, arith}
use Rattle.evac_law.specs.declared.model.Model.{Model}
use Rattle.replan.proofs.Counted.{comer_fits}
use Rattle.replan.proofs.comers.push_comers.Goals as goal

pub overflow_cast-people : goal.overflow_cast-people
overflow_cast-people g c =
    let p = (g.F.Standing.stand c.args.standing.now).plan in
    let in_time : c.loop-moment.moment ≤ c.args.layout.now.horizon = omega (arith, c.loop-moment-test.true, c.loop-moment.auto.moment-end, ap (λ (x : Model). x.horizon) c.model.ensures.same) in
    let few = comer_fits c.args.layout.now p c.args.from c.requires.stands.valid c.requires.in_horizon c.requires.stands.plan c.args.node c.loop-moment.moment
    c.requires.node_in in_time in
    omega (arith, few, c.comes_at-people.ensures)
