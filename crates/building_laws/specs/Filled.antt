-- What every best plan fills.
use Rattle.std.specs.Prelude.{◌≡◌, ℕ, ◌<◌, ◌≤◌, List, length, IsTrue, ◌⊎◌}
use Rattle.evac_law.specs.declared.model.Model.{Model}
use Rattle.evac_law.specs.declared.plan.Move.{Move}
use Rattle.evac_law.specs.Building.{IsValid, arrival, head, is_exit_at, rate, tail}
use Rattle.evac_law.specs.Certificates.{IsCertified, IsTight, stated_cut}
use Rattle.evac_law.specs.Cuts.{Cut, cut_value}
use Rattle.evac_law.specs.LabelTable.{LabelTable, label_at}
use Rattle.evac_law.specs.Plans.{IsFeasible, moved, out_by}
use Rattle.building_laws.specs.Duality.{IsBestAt}

-- a feasible plan with as many people out by a moment as a cut is worth fills the cut
abbrev pub EqualIsTight : Type 0
EqualIsTight =
    (m : Model) (x : Cut) (p : List Move) (k : ℕ) → IsValid m → IsFeasible m p k → out_by m p k ≡ cut_value m x k → IsTight m p x k

-- so every plan that is best by a moment fills the cut that a block states for it, whatever plan the block has
abbrev pub StatedCutsAreFilled : Type 0
StatedCutsAreFilled =
    (m : Model) (p q : List Move) (l : LabelTable) (c k : ℕ) → IsValid m → IsCertified m p l c → k ≤ m.horizon → IsBestAt m q k
    → IsTight m q (stated_cut m l c k) k

-- read off the labels: an arc is full at moment t in every plan that is best by k, if its label is above k at the tail and isn't at the head, or
-- the head is an exit
abbrev pub FullInEveryBestPlan : Type 0
FullInEveryBestPlan =
    (m : Model) (p q : List Move) (l : LabelTable) (c k a t : ℕ) → IsValid m → IsCertified m p l c → k < c → IsBestAt m q k → a < length m.arcs
    → k < label_at l (tail m a) t → arrival m a t ≤ k → IsTrue (is_exit_at m (head m a)) ⊎ (label_at l (head m a) (arrival m a t) ≤ k)
    → moved q a t ≡ rate m a t
