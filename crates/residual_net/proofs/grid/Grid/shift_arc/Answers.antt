use Rattle.std.proofs.Common.{◌-◌, [], ◌∷◌}
use Rattle.time_expansion.specs.Expansion.{from_at}
use Rattle.residual_net.specs.declared.place.Place.TheVariants.{Arc}
use Rattle.residual_net.specs.Legs.{waits_at}
use Rattle.residual_net.specs.Network.{step_over}
use Rattle.residual_net.proofs.LegLemmas.{shiftable_after, shiftable_before, shiftable_place, shiftable_room, shiftable_step}
use Rattle.residual_net.proofs.Steps.{push_then}
use Rattle.residual_net.proofs.grid.Grid.shift_arc.Goals as goal

pub bounds-ends-arc : goal.bounds-ends-arc
bounds-ends-arc c =
    let w = c.args.self.now in
    let waits = waits_at (from_at w.site.shape c.args.arc) c.args.since (c.args.moment - c.args.since) in
    rw (c.ends.ensures, c.shape.ensures.shape) (shiftable_step w waits (step_over (Arc c.args.arc c.args.moment)) c.args.people c.requires.shiftable).0

pub shift_waits-requires-clause-shiftable : goal.shift_waits-requires-clause-shiftable
shift_waits-requires-clause-shiftable c =
    let w = c.args.self.now in
    let waits = waits_at (from_at w.site.shape c.args.arc) c.args.since (c.args.moment - c.args.since) in
    rw (c.ends.ensures, c.shape.ensures.shape) (shiftable_before w waits (step_over (Arc c.args.arc c.args.moment) ∷ []) c.args.people c.requires.shiftable)

pub raise-requires : goal.raise-requires
raise-requires c =
    let w = c.args.self.now in
    let waits = waits_at (from_at w.site.shape c.args.arc) c.args.since (c.args.moment - c.args.since) in
    let waited = rw (c.ends.ensures, c.shape.ensures.shape) at c.shift_waits.ensures.pushed in
    let step = step_over (Arc c.args.arc c.args.moment) in
    let rest = shiftable_after w c.shift_waits.new.self waits (step ∷ []) c.args.people c.requires.shiftable waited in
    record {
      place = shiftable_place c.shift_waits.new.self step [] c.args.people rest;
      room = shiftable_room c.shift_waits.new.self step [] c.args.people rest;
    }

pub returns-clause-pushed : goal.returns-clause-pushed
returns-clause-pushed c =
    let w = c.args.self.now in
    let waits = waits_at (from_at w.site.shape c.args.arc) c.args.since (c.args.moment - c.args.since) in
    let waited = rw (c.ends.ensures, c.shape.ensures.shape) at c.shift_waits.ensures.pushed in
    push_then w c.shift_waits.new.self c.raise.new.self waits (step_over (Arc c.args.arc c.args.moment) ∷ []) c.args.people waited c.raise.ensures.pushed
