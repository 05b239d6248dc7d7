-- A search that goes on from all pairs that it has met, one after another, and labels each pair as it is met.
use Rattle.std.specs.Prelude.{◌≡◌, ℕ, ◌+◌, ◌-◌, ◌*◌, ◌<◌, ◌≤◌, ◌⊎◌, not, false, ◌==◌, List, Option, Some, None, MatchOption, count_by, length, drop, IsTrue}
use Rattle.std.specs.List.{All}
use Rattle.evac_law.specs.LabelTable.{LabelTable, label_at}
use Rattle.time_expansion.specs.Expansion.{to_at}
use Rattle.residual_net.specs.declared.place.PathStep.{PathStep}
use Rattle.residual_net.specs.declared.place.Place.TheVariants.{Arc}
use Rattle.residual_net.specs.Closed.{reached}
use Rattle.residual_net.specs.Labelled.{IsClosedBelow, IsLabelsOf}
use Rattle.residual_net.specs.Network.{Network, IsNet, IsWithinLimits, residual_room}
use Rattle.residual_net.specs.NetLaws.{labelled}
use Rattle.residual_net.specs.Site.{IsOpenPair, IsPlace, start_of, stop_of}
use Rattle.residual_net.specs.declared.end.End.TheVariants.{Door, Pair}
use Rattle.terminal_augment.specs.declared.spot.Met.{Met}
use Rattle.terminal_augment.specs.Chains.{AreMet, IsFound, spots}
use Rattle.terminal_augment.specs.Queues.{Queue}
use Rattle.terminal_augment.specs.Settled.{IsLabelled}
use Rattle.terminal_augment.specs.Spots.{has}

-- how many labels aren't k
unfoldable pub open_count : LabelTable → ℕ → ℕ
open_count l k = count_by (λ x. not (x == k)) l.list

-- a net is within its limits, labels are for its nodes and moments, and those that are k are of pairs that were met by steps with room
pub record IsFlooding (w : Network) (l : LabelTable) (k : ℕ) (q : Queue Met) : Type 0 where
  pub net : IsNet w
  pub within : IsWithinLimits w
  pub labels : IsLabelsOf w.site l
  pub full : length l.list ≡ l.nodes * (l.horizon + 1)
  pub moment : k ≤ w.site.shape.horizon
  pub room : open_count l k + length q.list ≤ q.room
  pub listed : (n t : ℕ) → IsOpenPair w.site n t → (label_at l n t == k) ≡ has (spots q.list) n t
  pub met : AreMet w k q.list

-- each label is as before, or was above k and is k, and what was met lies below what has been met since
pub record IsGrown (k : ℕ) (l m : LabelTable) (x y : Queue Met) : Type 0 where
  pub nodes : m.nodes ≡ l.nodes
  pub horizon : m.horizon ≡ l.horizon
  pub labels : (n t : ℕ) → (label_at m n t ≡ label_at l n t) ⊎ ((k < label_at l n t) × (label_at m n t ≡ k))
  pub room : y.room ≡ x.room
  pub more : length x.list ≤ length y.list
  pub below : drop (length y.list - length x.list) y.list ≡ x.list

-- a step has no room, or begins at a pair with a label of at most k or at an arrival by k
abbrev pub IsDone : Network → LabelTable → ℕ → PathStep → Type 0
IsDone w l k y = 0 < residual_room w y → IsTrue (reached (labelled l k) k (start_of w.site y))

-- a way is done, where there is one
abbrev pub IsWayDone : Network → LabelTable → ℕ → Option PathStep → Type 0
IsWayDone w l k o = MatchOption o (Unit {0}) (λ y. IsDone w l k y)

-- each step into a pair is done
abbrev pub IsExpanded : Network → LabelTable → ℕ → ℕ → ℕ → Type 0
IsExpanded w l k n t = (y : PathStep) → IsPlace w.site y.place → stop_of w.site y ≡ Pair n t → IsDone w l k y

-- each step is done into the pairs that were met first, so many of them
abbrev pub AreExpanded : Network → LabelTable → ℕ → ℕ → List Met → Type 0
AreExpanded w l k front ms = All (λ m. IsExpanded w l k m.spot.node m.spot.moment) (drop (length ms - front) ms)

-- the flood has begun at the arcs into nodes of smaller numbers: each step over one of them into an arrival at k is done
abbrev pub IsSeededBelow : Network → LabelTable → ℕ → ℕ → Type 0
IsSeededBelow w l k n = (a t : ℕ) → to_at w.site.shape a < n → IsPlace w.site (Arc a t) → stop_of w.site (record { place = Arc a t; back = false }) ≡ Door k
    → IsDone w l k (record { place = Arc a t; back = false })

-- the same labels
pub record HaveSameLabels (l m : LabelTable) : Type 0 where
  pub nodes : m.nodes ≡ l.nodes
  pub horizon : m.horizon ≡ l.horizon
  pub labels : (n t : ℕ) → n < l.nodes → t ≤ l.horizon → label_at m n t ≡ label_at l n t

-- nobody is left who can be sent to moment k, and the pairs labelled at most k are closed at k
pub record IsFloodOver (w : Network) (l m : LabelTable) (k : ℕ) : Type 0 where
  pub labels : IsLabelled l m k
  pub closed : IsClosedBelow w m (k + 1)

-- somebody can be sent by a step to one of the pairs that were met
pub record IsMeeting (w : Network) (l m : LabelTable) (k : ℕ) (ms : List Met) (y : PathStep) : Type 0 where
  pub alike : HaveSameLabels l m
  pub met : AreMet w k ms
  pub found : IsFound w k ms y

-- what a flood comes to
abbrev pub IsFlooded : Network → LabelTable → LabelTable → ℕ → List Met → Option PathStep → Type 0
IsFlooded w l m k ms None = IsFloodOver w l m k
IsFlooded w l m k ms (Some y) = IsMeeting w l m k ms y
