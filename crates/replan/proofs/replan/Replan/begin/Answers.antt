use Rattle.std.proofs.Common.{◌≡◌, ◌+◌, rules, replicate}
use Rattle.replan.proofs.Carried.{replan_begun}
use Rattle.replan.proofs.replan.Replan.begin.Goals as goal

pub invariant_of-result : goal.invariant_of-result
invariant_of-result g c =
    let b = c.in_ok-session.ensures.2.0 in
    let none : c.in-Ok.gone.items ≡ replicate (c.args.model.horizon + 1) 0 = search rules in
    replan_begun c.args.model c.in_ok-session.session.state c.in-Ok.gone.items b.begun b.none_former none
