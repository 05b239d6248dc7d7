use Rattle.std.proofs.Common.{arith}
use Rattle.residual_net.proofs.Walks.{flow_path}
use Rattle.residual_net.proofs.cancel.find_path.Goals as goal

pub walk_on-requires-clause-people : goal.walk_on-requires-clause-people
walk_on-requires-clause-people c =
    let people = c.walk_back-people.ensures.people in
    record { some = people.some; within = omega arith; enough = people.enough }

pub returns-clause-takeable : goal.returns-clause-takeable
returns-clause-takeable c =
    let walk = c.walk_on.ensures.walk in
    let people = c.walk_on.ensures.people in
    record {
      some = people.some;
      arrives = (walk.0, flow_path c.args.grid.now c.requires.net c.args.place c.walk_on.new.path.steps walk.0 walk.1);
      enough = people.enough;
    }

pub returns-clause-most : goal.returns-clause-most
returns-clause-most c = omega (arith, c.walk_on.ensures.people.within, c.walk_back-people.ensures.people.within)

pub returns-clause-through : goal.returns-clause-through
returns-clause-through c = c.walk_on.ensures.walk.1.through
