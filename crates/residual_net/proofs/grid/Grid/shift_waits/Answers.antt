use Rattle.std.proofs.Common.{◌≡◌, ℕ, ◌+◌, ◌-◌, ◌<◌, ◌≤◌, List, length, map, take, drop, ap, sym, subst, ◌∙◌, arith}
use Rattle.std.specs.List.{All}
use Rattle.std.proofs.Math.Seq.{sets}
use Rattle.std.proofs.lemmas.List.{with_items_is}
use borrow.Rule.Slice.PartMut.{put_mid}
use Rattle.time_expansion.specs.Expansion.{hold_cell}
use Rattle.residual_net.specs.declared.place.Cell.{Cell}
use Rattle.residual_net.specs.declared.place.PathStep.{PathStep}
use Rattle.residual_net.specs.declared.place.Place.TheVariants.{Hold}
use Rattle.residual_net.specs.Legs.{IsShiftable, wait_at, waits_at, with_more}
use Rattle.residual_net.specs.Network.{Network, IsGrid}
use Rattle.residual_net.specs.Route.{IsPushed}
use Rattle.residual_net.specs.Site.{IsPlace}
use Rattle.residual_net.specs.Start.{saved_cells}
use Rattle.residual_net.proofs.LegLemmas.{shiftable_place, wait_cell, waits_first, waits_fit, waits_none, waits_pushed, waits_roomy}
use Rattle.residual_net.proofs.Saving.{length_put, more_saved, other_cells, sets_put}
use Rattle.residual_net.proofs.Steps.{push_none}
use Rattle.residual_net.proofs.grid.Grid.shift_waits.Goals as goal

first_place : (w : Network) (n from to x : ℕ) → from < to → IsShiftable w (waits_at n from (to - from)) x → IsPlace w.site (Hold n from)
first_place w n from to x some can =
    shiftable_place w (wait_at n from) (waits_at n (from + 1) (to - (from + 1))) x
    (subst (λ (z : List PathStep). IsShiftable w z x) (waits_first n from to some) can)

pub returns-then-to-from-clause-pushed : goal.returns-then-to-from-clause-pushed
returns-then-to-from-clause-pushed c =
    subst (λ (z : List PathStep). IsPushed c.args.self.now c.args.self.now z c.args.people)
    (sym (waits_none c.args.node c.args.from c.args.to c.if-to-from.true)) (push_none c.args.self.now c.args.people)

pub hold_cell-first-requires-clause-node_in : goal.hold_cell-first-requires-clause-node_in
hold_cell-first-requires-clause-node_in c =
    let place = first_place c.args.self.now c.args.node c.args.from c.args.to c.args.people c.if-to-from.false c.requires.shiftable in
    subst (λ (z : Network). c.args.node < z.site.shape.nodes) (sym c.self.view_is) place.0

pub slice_bounds-waits-end : goal.slice_bounds-waits-end
slice_bounds-waits-end c =
    let w = c.args.self.now in
    let grid : IsGrid w = rw c.self.view_is at c.self.invariant.0 in
    let first = c.hold_cell-first.ensures.cell ∙ ap (λ (z : Network). hold_cell z.site.shape c.args.node 0) c.self.view_is in
    let cell = wait_cell w.site c.args.node c.args.from c.hold_cell-first.result first in
    let fits = waits_fit (c.args.to - c.args.from) w c.args.node c.args.from c.args.people _ grid cell c.requires.shiftable (omega (arith, c.if-to-from.false)) in
    omega (arith, fits, c.if-to-from.false, ap (λ (z : Network). length z.cells) c.self.view_is, ap length c.as_mut_slice-cells.ensures.value)

pub raise_all-requires : goal.raise_all-requires
raise_all-requires c =
    let w = c.args.self.now in
    let grid : IsGrid w = rw c.self.view_is at c.self.invariant.0 in
    let i = c.hold_cell-first.result in
    let first = c.hold_cell-first.ensures.cell ∙ ap (λ (z : Network). hold_cell z.site.shape c.args.node 0) c.self.view_is in
    let cell = wait_cell w.site c.args.node c.args.from i first in
    let rooms = waits_roomy (c.args.to - c.args.from) w c.args.node c.args.from c.args.people (i + c.args.from) grid cell c.requires.shiftable in
    let count : c.args.to - c.args.from ≡ (i + c.args.to) - (i + c.args.from) = omega arith in
    let same : c.as_mut_slice-cells.result.now ≡ w.cells = c.as_mut_slice-cells.ensures.value ∙ ap (λ (z : Network). z.cells) c.self.view_is in
    subst (λ (z : List Cell). All (λ (x : Cell). c.args.people ≤ x.limit - x.flow) (take ((i + c.args.to) - (i + c.args.from)) (drop (i + c.args.from) z))) (sym same)
    (subst (λ (j : ℕ). All (λ (x : Cell). c.args.people ≤ x.limit - x.flow) (take j (drop (i + c.args.from) w.cells))) count rooms)

pub returns-clause-pushed : goal.returns-clause-pushed
returns-clause-pushed c =
    let w = c.args.self.now in
    let g = c.self.inside in
    let x = c.args.people in
    let grid : IsGrid w = rw c.self.view_is at c.self.invariant.0 in
    let i = c.hold_cell-first.result in
    let a = i + c.args.from in
    let k = (i + c.args.to) - (i + c.args.from) in
    let xs = c.as_mut_slice-cells.result.now in
    let first = c.hold_cell-first.ensures.cell ∙ ap (λ (z : Network). hold_cell z.site.shape c.args.node 0) c.self.view_is in
    let cell = wait_cell w.site c.args.node c.args.from i first in
    let fits = waits_fit (c.args.to - c.args.from) w c.args.node c.args.from x a grid cell c.requires.shiftable (omega (arith, c.if-to-from.false)) in
    let count : k ≡ c.args.to - c.args.from = omega arith in
    let same : xs ≡ w.cells = c.as_mut_slice-cells.ensures.value ∙ ap (λ (z : Network). z.cells) c.self.view_is in
    let within : a + k ≤ length xs = omega (arith, fits, count, ap length same) in
    let ys = c.raise_all.new.cells in
    let long : length (put_mid a k xs ys) ≡ g.cells.len = length_put xs ys a k x within c.raise_all.ensures ∙ c.as_mut_slice-cells.ensures.len in
    let put = with_items_is g.cells (put_mid a k xs ys) long ∙ sets_put xs ys a k x within c.raise_all.ensures in
    let cells = sets w.cells a (map (with_more x) (take (c.args.to - c.args.from) (drop a w.cells))) in
    let changed = put ∙ ap (λ (z : List Cell). sets z a (map (with_more x) (take k (drop a z)))) same
    ∙ ap (λ (j : ℕ). sets w.cells a (map (with_more x) (take j (drop a w.cells)))) count in
    let saved = ap (λ (z : List Cell). saved_cells g.is_saved z g.saved.items) put ∙ more_saved g.is_saved g.saved.items x k a xs within
    ∙ ap (λ (z : List Cell). saved_cells g.is_saved z g.saved.items) c.as_mut_slice-cells.ensures.value ∙ ap (λ (z : Network). z.saved) c.self.view_is in
    subst (λ (z : Network). IsPushed w z (waits_at c.args.node c.args.from (c.args.to - c.args.from)) x)
    (sym (other_cells _ w cells (ap (λ (z : Network). z.site) c.self.view_is) changed saved))
    (waits_pushed (c.args.to - c.args.from) w c.args.node c.args.from x a grid cell c.requires.shiftable)
