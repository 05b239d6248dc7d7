use Rattle.std.proofs.Common.{false}
use Rattle.residual_net.specs.declared.legs.Leg.{Leg}
use Rattle.residual_net.specs.declared.place.Place.TheVariants.{Arc}
use Rattle.residual_net.specs.Legs.{steps_of_legs}
use Rattle.residual_net.proofs.Steps.{within_pushed}
use Rattle.residual_net.proofs.LegLemmas.{legs_first, legs_last, legs_some, shiftable_path}
use Rattle.residual_net.proofs.Kept.{kept_moved, stored_of}
use Rattle.residual_net.proofs.net.Net.push_legs.Goals as goal

abbrev blank : Leg
blank = record { since = 0; step = record { place = Arc 0 0; back = false } }

pub shift_legs-requires-clause-shiftable : goal.shift_legs-requires-clause-shiftable
shift_legs-requires-clause-shiftable g c =
    let w = c.args.self.now in
    rw c.self.view_is (shiftable_path w (steps_of_legs w.site c.args.legs.now) c.args.people c.requires.path)

pub move_arrivals-requires-clause-underway : goal.move_arrivals-requires-clause-underway
move_arrivals-requires-clause-underway g c =
    let w = c.args.self.now in
    let legs = c.args.legs.now in
    record {
      path = steps_of_legs w.site legs;
      underway = record {
        before = w;
        stored = stored_of c.self.view_is c.as_mut_slice.ensures.value c.self.invariant;
        within = c.requires.within;
        pushable = c.requires.path;
        pushed = rw c.self.view_is at c.shift_legs.ensures.pushed;
        grid = c.shift_legs.ensures.grid;
      };
      first_step = λ d. legs_first w legs c.args.people blank d c.requires.path;
      last_step = λ d. legs_last w.site legs blank d (legs_some w legs c.args.people c.requires.path);
    }

pub returns-clause-within : goal.returns-clause-within
returns-clause-within g c =
    let w = c.args.self.now in
    within_pushed w c.shift_legs.new.grid (steps_of_legs w.site c.args.legs.now) c.args.people c.requires.within c.requires.path
    (rw c.self.view_is at c.shift_legs.ensures.pushed)

pub returns-clause-net : goal.returns-clause-net
returns-clause-net g c = c.move_arrivals.ensures.net

pub invariant_of-self : goal.invariant_of-self
invariant_of-self g c =
    let pushed = c.shift_legs.ensures.pushed in
    kept_moved c.self.invariant pushed.site pushed.saved pushed.limits c.move_arrivals.ensures c.self.inside.arrivals.ok.0
