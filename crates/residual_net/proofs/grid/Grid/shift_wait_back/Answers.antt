use Rattle.std.proofs.Common.{◌+◌, ◌-◌, [], ◌∷◌, true, arith}
use Rattle.time_expansion.proofs.Cells.{sizes}
use Rattle.residual_net.specs.declared.place.PathStep.{PathStep}
use Rattle.residual_net.specs.declared.place.Place.TheVariants.{Hold}
use Rattle.residual_net.specs.Legs.{waits_at}
use Rattle.residual_net.proofs.LegLemmas.{shiftable_after, shiftable_before, shiftable_place, shiftable_room, shiftable_step}
use Rattle.residual_net.proofs.Steps.{push_then}
use Rattle.residual_net.proofs.grid.Grid.shift_wait_back.Goals as goal

pub overflow_add-moment : goal.overflow_add-moment
overflow_add-moment c =
    let step : PathStep = record { place = Hold c.args.node c.args.moment; back = true } in
    let waits = waits_at c.args.node c.args.since ((c.args.moment + 1) - c.args.since) in
    let place = shiftable_step c.args.self.now waits step c.args.people c.requires.shiftable in
    omega (arith, place.1, (sizes c.args.self.now.site.shape c.requires.grid.site.shape).horizon)

pub shift_waits-requires-clause-shiftable : goal.shift_waits-requires-clause-shiftable
shift_waits-requires-clause-shiftable c =
    let step : PathStep = record { place = Hold c.args.node c.args.moment; back = true } in
    let waits = waits_at c.args.node c.args.since ((c.args.moment + 1) - c.args.since) in
    shiftable_before c.args.self.now waits (step ∷ []) c.args.people c.requires.shiftable

pub shift-requires-clause-place : goal.shift-requires-clause-place
shift-requires-clause-place c =
    let w = c.args.self.now in
    let step : PathStep = record { place = Hold c.args.node c.args.moment; back = true } in
    let waits = waits_at c.args.node c.args.since ((c.args.moment + 1) - c.args.since) in
    shiftable_place c.shift_waits.new.self step [] c.args.people
    (shiftable_after w c.shift_waits.new.self waits (step ∷ []) c.args.people c.requires.shiftable c.shift_waits.ensures.pushed)

pub shift-requires-clause-room : goal.shift-requires-clause-room
shift-requires-clause-room c =
    let w = c.args.self.now in
    let step : PathStep = record { place = Hold c.args.node c.args.moment; back = true } in
    let waits = waits_at c.args.node c.args.since ((c.args.moment + 1) - c.args.since) in
    shiftable_room c.shift_waits.new.self step [] c.args.people
    (shiftable_after w c.shift_waits.new.self waits (step ∷ []) c.args.people c.requires.shiftable c.shift_waits.ensures.pushed)

pub returns-clause-pushed : goal.returns-clause-pushed
returns-clause-pushed c =
    let w = c.args.self.now in
    let step : PathStep = record { place = Hold c.args.node c.args.moment; back = true } in
    let waits = waits_at c.args.node c.args.since ((c.args.moment + 1) - c.args.since) in
    push_then w c.shift_waits.new.self c.shift.new.self waits (step ∷ []) c.args.people c.shift_waits.ensures.pushed c.shift.ensures.pushed
