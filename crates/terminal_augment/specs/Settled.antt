-- What settling an arrival moment does to a net and to its labels.
use Rattle.std.specs.Prelude.{◌≡◌, ℕ, ◌+◌, ◌<◌, ◌≤◌, ◌⊎◌, Bool}
pub use Rattle.residual_net.specs.Labelled.{IsClosedBelow, IsLabelsOf}
use Rattle.evac_law.specs.LabelTable.{LabelTable, label_at, unset}
use Rattle.residual_net.specs.declared.place.Place.{Place}
use Rattle.residual_net.specs.Closed.{IsClosed}
use Rattle.residual_net.specs.Network.{Network, IsNet, IsWithinLimits, arrived_by, limit_at}
use Rattle.residual_net.specs.Site.{Site, IsPlace}

-- a search as callers see it: the number of nodes and the horizon that it is for
pub record SearchSize : Type 0 where
  pub nodes : ℕ
  pub horizon : ℕ

-- the search is for the network's nodes and moments
pub record IsSearchOf (s : Site) (x : SearchSize) : Type 0 where
  pub nodes : x.nodes ≡ s.shape.nodes
  pub horizon : x.horizon ≡ s.shape.horizon

-- each label that isn't below k is unset
abbrev pub IsUnsetFrom : LabelTable → ℕ → Type 0
IsUnsetFrom l k = (n t : ℕ) → n < l.nodes → t ≤ l.horizon → k ≤ label_at l n t → label_at l n t ≡ unset

-- the moments below k are settled: what their labels reach is closed, and the other labels are unset
pub record IsSettledBelow (w : Network) (l : LabelTable) (k : ℕ) : Type 0 where
  pub within : IsWithinLimits w
  pub labels : IsLabelsOf w.site l
  pub moment : k ≤ w.site.shape.horizon
  pub closed : IsClosedBelow w l k
  pub unset : IsUnsetFrom l k

-- no limit changes, nor what was saved
pub record KeepsLimits (w v : Network) : Type 0 where
  pub site : v.site ≡ w.site
  pub saved : v.saved ≡ w.saved
  pub limits : (p : Place) → IsPlace w.site p → limit_at v p ≡ limit_at w p

-- pushes that each bring somebody to moment k who was unsent or arrived later: no earlier arrivals change, and no later ones fall
pub record IsSentOn (w v : Network) (k pushes : ℕ) : Type 0 where
  pub earlier : (i : ℕ) → i < k → arrived_by v i ≡ arrived_by w i
  pub later : (i : ℕ) → arrived_by w i ≤ arrived_by v i
  pub risen : arrived_by w k + pushes ≤ arrived_by v k
  pub idle : pushes ≡ 0 → v ≡ w

-- labels below k stay as they are, and of the others some become k and the rest stay unset
pub record IsLabelled (l m : LabelTable) (k : ℕ) : Type 0 where
  pub nodes : m.nodes ≡ l.nodes
  pub horizon : m.horizon ≡ l.horizon
  pub kept : (n t : ℕ) → n < l.nodes → t ≤ l.horizon → label_at l n t < k → label_at m n t ≡ label_at l n t
  pub others : (n t : ℕ) → n < l.nodes → t ≤ l.horizon → k ≤ label_at l n t → (label_at m n t ≡ k) ⊎ (label_at m n t ≡ unset)

-- what is closed at a moment below k stays so
abbrev pub KeepsClosed : Network → Network → ℕ → Type 0
KeepsClosed w v k = (s : ℕ → ℕ → Bool) (i : ℕ) → i < k → IsClosed w s i → IsClosed v s i

-- what pushes to moment k leave and bring
pub record IsPushedOn (w v : Network) (k pushes : ℕ) : Type 0 where
  pub limits : KeepsLimits w v
  pub within : IsWithinLimits v
  pub net : IsNet v
  pub sent : IsSentOn w v k pushes
  pub closed : KeepsClosed w v k

-- pushes to moment k, each counted as a step
pub record IsCountedOn (w v : Network) (k pushes before after : ℕ) : Type 0 where
  pub pushed : IsPushedOn w v k pushes
  pub ticked : after ≡ before + pushes
