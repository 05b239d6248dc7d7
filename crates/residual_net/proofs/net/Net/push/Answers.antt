use Rattle.std.proofs.Common.{◌-◌, false, length, arith}
use Rattle.std.proofs.lemmas.List.{get_or_default}
use Rattle.residual_net.specs.declared.place.PathStep.{PathStep}
use Rattle.residual_net.specs.declared.place.Place.TheVariants.{Arc}
use Rattle.residual_net.specs.Route.{IsPushable}
use Rattle.residual_net.proofs.Steps.{path_some}
use Rattle.residual_net.proofs.Kept.{kept_moved, stored_of}
use Rattle.residual_net.proofs.net.Net.push.Goals as goal

abbrev blank : PathStep
blank = record { place = Arc 0 0; back = false }

pub move_arrivals-requires-clause-underway : goal.move_arrivals-requires-clause-underway
move_arrivals-requires-clause-underway g c =
    let path = c.steps-list.result.now in
    let pushable : IsPushable c.args.self.now path c.args.people = rw c.steps-list.ensures c.requires.path in
    let some = path_some c.args.self.now path c.args.people pushable in
    record {
      path = path;
      underway = record {
        before = c.args.self.now;
        stored = stored_of c.self.view_is c.as_mut_slice.ensures.value c.self.invariant;
        within = c.requires.within;
        pushable = pushable;
        pushed = rw c.self.view_is at c.shift_all.ensures.pushed;
        grid = c.shift_all.ensures.grid;
      };
      first_step = λ d. get_or_default path 0 d blank some;
      last_step = λ d. get_or_default path (length path - 1) d blank (omega (arith, some));
    }

pub returns-clause-net : goal.returns-clause-net
returns-clause-net g c = c.move_arrivals.ensures.net

pub invariant_of-self : goal.invariant_of-self
invariant_of-self g c =
    let pushed = c.shift_all.ensures.pushed in
    kept_moved c.self.invariant pushed.site pushed.saved pushed.limits c.move_arrivals.ensures c.self.inside.arrivals.ok.0
