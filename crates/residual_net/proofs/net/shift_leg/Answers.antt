use Rattle.std.proofs.Common.{[], ◌∷◌}
use Rattle.residual_net.specs.Legs.{waits_to}
use Rattle.residual_net.specs.Site.{start_of}
use Rattle.residual_net.proofs.Steps.{push_then}
use Rattle.residual_net.proofs.LegLemmas.{shiftable_after, shiftable_before, shiftable_place, shiftable_room, shiftable_step}
use Rattle.residual_net.proofs.net.shift_leg.Goals as goal

pub shift_waits_to-requires-clause-place : goal.shift_waits_to-requires-clause-place
shift_waits_to-requires-clause-place c =
    let g = c.args.leg in
    shiftable_step c.args.grid.now (waits_to (start_of c.args.grid.now.site g.step) g.since) g.step c.args.people c.requires.shiftable

pub shift_waits_to-requires-clause-shiftable : goal.shift_waits_to-requires-clause-shiftable
shift_waits_to-requires-clause-shiftable c =
    let g = c.args.leg in
    shiftable_before c.args.grid.now (waits_to (start_of c.args.grid.now.site g.step) g.since) (g.step ∷ []) c.args.people c.requires.shiftable

pub shift-requires-clause-place : goal.shift-requires-clause-place
shift-requires-clause-place c =
    let g = c.args.leg in
    let waits = waits_to (start_of c.args.grid.now.site g.step) g.since in
    shiftable_place c.shift_waits_to.new.self g.step [] c.args.people
    (shiftable_after c.args.grid.now c.shift_waits_to.new.self waits (g.step ∷ []) c.args.people c.requires.shiftable c.shift_waits_to.ensures.pushed)

pub shift-requires-clause-room : goal.shift-requires-clause-room
shift-requires-clause-room c =
    let g = c.args.leg in
    let waits = waits_to (start_of c.args.grid.now.site g.step) g.since in
    shiftable_room c.shift_waits_to.new.self g.step [] c.args.people
    (shiftable_after c.args.grid.now c.shift_waits_to.new.self waits (g.step ∷ []) c.args.people c.requires.shiftable c.shift_waits_to.ensures.pushed)

pub returns-clause-pushed : goal.returns-clause-pushed
returns-clause-pushed c =
    let g = c.args.leg in
    push_then c.args.grid.now c.shift_waits_to.new.self c.shift.new.self (waits_to (start_of c.args.grid.now.site g.step) g.since) (g.step ∷ []) c.args.people
    c.shift_waits_to.ensures.pushed c.shift.ensures.pushed
