-- Everybody out by a moment, and the labels that this gives.
use Rattle.std.specs.Prelude.{◌≡◌, ℕ, ◌+◌, ◌*◌, ◌<◌, ◌≤◌, ◌⊎◌, length}
use Rattle.evac_law.specs.LabelTable.{LabelTable, label_at}
use Rattle.residual_net.specs.Network.{Network, IsAllSent}
use Rattle.residual_net.specs.OfModel.{last_move, plan_of}

-- everybody is sent, and the last move arrives by a moment
pub record AreAllOut (w : Network) (k : ℕ) : Type 0 where
  pub sent : IsAllSent w
  pub last : last_move w.site (plan_of w) ≤ k

-- there is a label for each pair
abbrev pub IsWholeTable : LabelTable → Type 0
IsWholeTable l = length l.list ≡ l.nodes * (l.horizon + 1)

-- labels above k became k at some moments before it, among them those of all pairs of a kind
pub record AreLowered (k : ℕ) (kind : ℕ → ℕ → Type 0) (l m : LabelTable) : Type 0 where
  pub nodes : m.nodes ≡ l.nodes
  pub horizon : m.horizon ≡ l.horizon
  pub full : IsWholeTable m
  pub low : (n t : ℕ) → kind n t → label_at m n t ≤ k
  pub others : (n t : ℕ) → n < l.nodes → t ≤ l.horizon → (label_at m n t ≡ label_at l n t) ⊎ ((t < k) × (k < label_at l n t) × (label_at m n t ≡ k))
