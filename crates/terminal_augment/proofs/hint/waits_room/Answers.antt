use Rattle.std.proofs.Common.{◌≡◌, ◌+◌, ◌-◌, ◌≤◌, ◌<◌, List, length, ap, sym, subst, arith}
use Rattle.std.specs.List.{All, between}
use Rattle.residual_net.specs.declared.place.Cell.{Cell}
use Rattle.residual_net.specs.declared.place.Place.TheVariants.{Hold}
use Rattle.residual_net.specs.Network.{flow_at, limit_at, no_cell}
use Rattle.terminal_augment.proofs.HintLemmas.{wait_among, wait_cell, wait_count, wait_counted, wait_first}
use Rattle.terminal_augment.proofs.hint.waits_room.Goals as goal

pub slice_bounds-waits-end : goal.slice_bounds-waits-end
slice_bounds-waits-end c =
    let w = c.args.net.now in
    let first = wait_first w c.args.node c.hold_cell-first.result c.hold_cell-first.ensures.cell c.shape.ensures.shape in
    let last = wait_cell c.args.node c.args.to c.hold_cell-first.result c.shape.ensures.net c.requires.node c.requires.moment first in
    omega (arith, last.0, ap length c.cells.ensures)

pub least_room-requires : goal.least_room-requires
unfolding flow_at limit_at
least_room-requires c =
    let w = c.args.net.now in
    let n = c.args.node in
    let a = c.hold_cell-first.result in
    let first = wait_first w n a c.hold_cell-first.ensures.cell c.shape.ensures.shape in
    subst (λ (z : List Cell). All (λ (x : Cell). x.flow ≤ x.limit) (between (a + c.args.from) (a + c.args.to) z)) (sym c.cells.ensures)
    (λ i d l.
    let lt : c.args.from + i < c.args.to = wait_count w a c.args.from c.args.to i l in
    subst (λ (z : Cell). z.flow ≤ z.limit) (sym (wait_among n c.args.from c.args.to a i d c.shape.ensures.net c.requires.node c.requires.moment first lt))
    (c.requires.within (Hold n (c.args.from + i)) (c.requires.node, omega (arith, lt, c.requires.moment))))

pub returns-clause-room : goal.returns-clause-room
unfolding flow_at limit_at
returns-clause-room c t early late =
    let w = c.args.net.now in
    let n = c.args.node in
    let a = c.hold_cell-first.result in
    let first = wait_first w n a c.hold_cell-first.ensures.cell c.shape.ensures.shape in
    let i = t - c.args.from in
    let here : c.args.from + i ≡ t = omega (arith, early) in
    let lt : c.args.from + i < c.args.to = omega (arith, here, late) in
    let each : All (λ (x : Cell). c.least_room.result ≤ x.limit - x.flow) (between (a + c.args.from) (a + c.args.to) w.cells) =
    subst (λ (z : List Cell). All (λ (x : Cell). c.least_room.result ≤ x.limit - x.flow) (between (a + c.args.from) (a + c.args.to) z)) c.cells.ensures
    c.least_room.ensures.room in
    let last = wait_cell n c.args.to a c.shape.ensures.net c.requires.node c.requires.moment first in
    let one = each i no_cell (wait_counted w a c.args.from c.args.to i (omega (arith, last.0)) lt) in
    let cell = wait_among n c.args.from c.args.to a i no_cell c.shape.ensures.net c.requires.node c.requires.moment first lt in
    subst (λ u. c.least_room.result ≤ limit_at w (Hold n u) - flow_at w (Hold n u)) here (subst (λ (z : Cell). c.least_room.result ≤ z.limit - z.flow) cell one)
