use Rattle.replan.proofs.Carried.{is_advanced, left_is_clearable, left_is_valid, never_short, replan_advanced}
use Rattle.replan.proofs.replan.Replan.carried_out.Goals as goal

pub begin-requires : goal.begin-requires
begin-requires g c = left_is_valid c.args.self.now c.args.moment c.requires c.in_ok-rest.rest c.in_ok-rest.gone.items c.in_ok-rest.ensures

pub invariant_of-result : goal.invariant_of-result
invariant_of-result g c =
    replan_advanced c.args.self.now c.args.moment c.requires c.in_ok-rest.rest c.in_ok-rest.gone.items c.in_ok-rest.ensures
    c.in-Ok.session c.in-Ok.ensures.0 c.in-Ok.ensures.2

pub returns-in-Ok : goal.returns-in-Ok
returns-in-Ok g c =
    let advanced = is_advanced c.args.self.now c.args.moment c.requires c.in_ok-rest.rest c.in_ok-rest.gone.items c.in_ok-rest.ensures
    c.in-Ok.session c.in-Ok.ensures.0 c.in-Ok.ensures.2 in
    (c.in-Ok.ensures.0, c.in-Ok.ensures.1, (advanced, c.in-Ok.ensures.2.2))

pub unreachable-requires : goal.unreachable-requires
unreachable-requires g c =
    never_short c.in_ok-rest.rest c.in-Err-NotCleared.field-0 c.in-Err-NotCleared.field-0-0 c.in-Err-NotCleared.ensures.0 c.in-Err-NotCleared.field-0-is
    c.in-Err-NotCleared.ensures.2
    (left_is_clearable c.args.self.now c.args.moment c.requires c.in_ok-rest.rest c.in_ok-rest.gone.items c.in_ok-rest.ensures)
