use Rattle.std.proofs.Common.{◌≡◌, ℕ, ◌<◌, ◌≤◌, ap, arith, false}
use Rattle.evac_law.specs.Building.{is_exit_at}
use Rattle.evac_law.specs.Plans.{left}
use Rattle.evac_law.proofs.ValidLemmas.{horizon_small}
use Rattle.plan_layout.specs.Tables.{people_at}
use Rattle.cards.specs.declared.comer.Comer.{Comer}
use Rattle.cards.specs.declared.counts.Counts.{Counts}
use Rattle.cards.specs.Counts.{AreTrueCounts}
use Rattle.cards.specs.Following.{IsComer}
use Rattle.cards.proofs.Following.{in_left, none_left_before}
use Rattle.cards.proofs.Moments.{count_before-more}
use Rattle.cards.proofs.follow.leaves_at.Goals as goal

pub loop-comer-init : goal.loop-comer-init
loop-comer-init c = grind (arith, none_left_before)

-- whoever hasn't left by a moment leaves later, since by the horizon everybody has left
leaves_later : (w : Counts) → AreTrueCounts w → (k : Comer) → IsComer w.plan.model w.plan.moves k → is_exit_at w.plan.model k.node ≡ false
    → (t x : ℕ) → t ≤ w.plan.model.horizon → x ≡ people_at w.left k.node t → x ≤ k.number
    → (left w.plan.model w.plan.moves k.node t ≤ k.number) × (t < w.plan.model.horizon)
leaves_later w h k comer inside t x l e stays =
    let last : t ≡ w.plan.model.horizon → left w.plan.model w.plan.moves k.node t ≡ left w.plan.model w.plan.moves k.node w.plan.model.horizon =
    ap (left w.plan.model w.plan.moves k.node) in
    (not_yet, grind (arith, l, last, not_yet, in_left w.plan.model w.plan.moves h.takes k comer inside))
  where
    not_yet : left w.plan.model w.plan.moves k.node t ≤ k.number
    not_yet = omega (arith, h.leaves k.node t comer.node_in l, e, stays)

pub loop-comer-preserved : goal.loop-comer-preserved
loop-comer-preserved c = grind (arith, leaves_later, count_before-more)

pub overflow_add-moment : goal.overflow_add-moment
overflow_add-moment c = grind (arith, leaves_later, horizon_small)

pub loop-comer-smaller : goal.loop-comer-smaller
loop-comer-smaller c = grind (arith, leaves_later)
