-- What holds while moment after moment is settled.
use Rattle.std.specs.Prelude.{◌≡◌, ℕ, ◌+◌, ◌<◌, ◌≤◌, ◌⊎◌}
use Rattle.std.specs.List.{sum_by}
use Rattle.evac_law.specs.LabelTable.{LabelTable, label_at, unset}
use Rattle.evac_law.specs.Sums.{below}
use Rattle.residual_net.specs.Network.{Network, IsAllSent, IsNet, IsWithinLimits, arrived_by}
use Rattle.residual_net.specs.OfModel.{last_move, plan_of}
use Rattle.terminal_augment.specs.Settled.{IsClosedBelow, IsLabelsOf, IsSearchOf, KeepsLimits, SearchSize}

-- labels below a moment stay as they are, and each other one becomes unset, or a moment from there on and before the next to be settled
pub record IsRelabelled (l m : LabelTable) (from next : ℕ) : Type 0 where
  pub nodes : m.nodes ≡ l.nodes
  pub horizon : m.horizon ≡ l.horizon
  pub kept : (n t : ℕ) → n < l.nodes → t ≤ l.horizon → label_at l n t < from → label_at m n t ≡ label_at l n t
  pub others : (n t : ℕ) → n < l.nodes → t ≤ l.horizon → from ≤ label_at l n t
      → ((from ≤ label_at m n t) × (label_at m n t < next)) ⊎ (label_at m n t ≡ unset)

-- the arrivals by each moment below n, added up
unfoldable pub arrivals_below : Network → ℕ → ℕ
arrivals_below w n = sum_by (λ i. arrived_by w i) (below n)

-- everybody is sent, and the last move arrives before a moment
pub record IsOver (w : Network) (k : ℕ) : Type 0 where
  pub sent : IsAllSent w
  pub before : last_move w.site (plan_of w) < k

-- the moments from one to another are settled, none of them after everybody had arrived
pub record IsSettledTo (w v : Network) (l m : LabelTable) (from k pushes : ℕ) : Type 0 where
  pub since : from ≤ k
  pub limits : KeepsLimits w v
  pub within : IsWithinLimits v
  pub net : IsNet v
  pub earlier : (i : ℕ) → i < from → arrived_by v i ≡ arrived_by w i
  pub later : (i : ℕ) → arrived_by w i ≤ arrived_by v i
  pub bounded : pushes + arrivals_below w k ≤ arrivals_below v k
  pub idle : pushes ≡ 0 → v ≡ w
  pub none : k ≡ from → pushes ≡ 0
  pub labels : IsRelabelled l m from k
  pub closed : IsClosedBelow v m k
  pub needed : (i : ℕ) → from ≤ i → i + 1 ≡ k → IsOver v i → ⊥
  pub rests : IsOver w from → k ≡ from

-- what settling asks: labels and a search of the network, a moment of it or the next one after, flow within its limits, and sets below the
-- moment that are closed
pub record IsSettleable (w : Network) (l : LabelTable) (x : SearchSize) (k : ℕ) : Type 0 where
  pub labels : IsLabelsOf w.site l
  pub search : IsSearchOf w.site x
  pub from : k ≤ w.site.shape.horizon + 1
  pub within : IsWithinLimits w
  pub closed : IsClosedBelow w l k

-- the moments are settled until everybody arrives before the next one, or to the horizon
pub record IsSettledThrough (w v : Network) (l m : LabelTable) (from k pushes : ℕ) : Type 0 where
  pub settled : IsSettledTo w v l m from k pushes
  pub next : k ≤ v.site.shape.horizon + 1
  pub over : k ≤ v.site.shape.horizon → IsOver v k
