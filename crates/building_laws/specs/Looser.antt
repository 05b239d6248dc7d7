-- Buildings with no smaller rates and capacities keep every plan.
use Rattle.std.specs.Prelude.{◌≡◌, ℕ, ◌<◌, ◌≤◌, List, length, Ok}
use Rattle.evac_law.specs.declared.edit.Edit.{Edit}
use Rattle.evac_law.specs.declared.edit.Edit.TheVariants.{Enter, Leave, Rate, Reopen, ReopenExit, Room, Shift, Shut, ShutExit, Unwindow, Window}
use Rattle.evac_law.specs.declared.model.Model.{Model}
use Rattle.evac_law.specs.declared.plan.Move.{Move}
use Rattle.evac_law.specs.Building.{arc_at, capacity, head, is_exit_at, rate, start, tail}
use Rattle.evac_law.specs.Certificates.{IsClearable}
use Rattle.evac_law.specs.Edits.{IsEditOf, applied}
use Rattle.evac_law.specs.Plans.{IsFeasible, out_by}

-- a second model has the same people on the same nodes and arcs, and up to the horizon no capacity and no rate is smaller
pub record IsLooser (m m' : Model) : Type 0 where
  pub horizon : m.horizon ≡ m'.horizon
  pub places : length m.nodes ≡ length m'.nodes
  pub exits : (n : ℕ) → is_exit_at m n ≡ is_exit_at m' n
  pub starts : (n : ℕ) → start m n ≡ start m' n
  pub entrants : m.entrants ≡ m'.entrants
  pub rooms : (n : ℕ) → capacity m n ≤ capacity m' n
  pub arcs : length m.arcs ≡ length m'.arcs
  pub tails : (a : ℕ) → tail m a ≡ tail m' a
  pub heads : (a : ℕ) → head m a ≡ head m' a
  pub travels : (a : ℕ) → (arc_at m a).travel ≡ (arc_at m' a).travel
  pub rates : (a t : ℕ) → a < length m.arcs → t ≤ m.horizon → rate m a t ≤ rate m' a t

-- a feasible plan of the first model is one of the second, with as many out; where the first can be cleared, so can the second
pub record KeepsPlans (m m' : Model) : Type 0 where
  pub plans : (p : List Move) (k : ℕ) → k ≤ m.horizon → IsFeasible m p k → IsFeasible m' p k
  pub out : (p : List Move) (k : ℕ) → out_by m' p k ≡ out_by m p k
  pub clears : IsClearable m → IsClearable m'

abbrev pub LooserKeepsPlans : Type 0
LooserKeepsPlans = (m m' : Model) → IsLooser m m' → KeepsPlans m m'

-- an edit that takes nothing away: it reopens, removes a window, or sets a rate or a capacity that is no smaller
abbrev pub IsLoosening : Model → Edit → Type 0
IsLoosening m (Shut a) = ⊥
IsLoosening m (Reopen a) = Unit {0}
IsLoosening m (ShutExit n) = ⊥
IsLoosening m (ReopenExit n) = Unit {0}
IsLoosening m (Rate a r) = (arc_at m a).rate ≤ r
IsLoosening m (Room n c) = capacity m n ≤ c
IsLoosening m (Shift a b p) = ⊥
IsLoosening m (Enter n p) = ⊥
IsLoosening m (Leave n p) = ⊥
IsLoosening m (Window a p q) = ⊥
IsLoosening m (Unwindow a p q) = Unit {0}

-- such an edit keeps every plan
abbrev pub LooseningKeepsPlans : Type 0
LooseningKeepsPlans =
    (m m' : Model) (e i : Edit) → IsEditOf m e → IsLoosening m e → applied m e ≡ Ok (m', i) → KeepsPlans m m'
