-- A hinted path, checked from its end.
use Rattle.std.specs.Prelude.{◌≡◌, ℕ, ◌-◌, ◌<◌, ◌≤◌, List, Option, Some, None, IsFalse, IsTrue}
use Rattle.residual_net.specs.declared.place.PathStep.{PathStep}
use Rattle.residual_net.specs.Legs.{wait_at, waits_at}
use Rattle.residual_net.specs.Network.{Network, residual_room}
use Rattle.residual_net.specs.Route.{IsAugmentingPath}
use Rattle.residual_net.specs.declared.end.End.{End}
use Rattle.residual_net.specs.Site.{Site, IsOpenEnd, IsPlace, start_of, stop_of}
use Rattle.terminal_augment.specs.declared.hint.Checked.{Checked}
use Rattle.terminal_augment.specs.Marking.{MarkTable, IsMarks, is_marked}

-- a step with room leads from one end to another
pub record IsStep (w : Network) (y : PathStep) (r e : End) : Type 0 where
  pub place : IsPlace w.site y.place
  pub room : 0 < residual_room w y
  pub start : start_of w.site y ≡ r
  pub inside : IsOpenEnd w.site r
  pub stop : stop_of w.site y ≡ e

-- the check of a hint has come from a pair to an earlier one of the same node, and each wait since a moment between the two has room
pub record IsCheckedBack (w : Network) (since : ℕ) (x y : Checked) : Type 0 where
  pub node : y.spot.node ≡ x.spot.node
  pub earlier : y.spot.moment ≤ x.spot.moment
  pub waits : waits_at x.spot.node since (x.spot.moment - since) ≡ waits_at x.spot.node y.spot.moment (x.spot.moment - y.spot.moment)
  pub fewer : y.people ≤ x.people
  pub some : 0 < x.people → 0 < y.people
  pub room : (t : ℕ) → y.spot.moment ≤ t → t < x.spot.moment → y.people ≤ residual_room w (wait_at x.spot.node t)

-- the waits since a moment were checked, if they may be taken
abbrev pub IsCheckedOver : Network → ℕ → Checked → Option Checked → Type 0
IsCheckedOver w since x None = Unit {0}
IsCheckedOver w since x (Some y) = IsCheckedBack w since x y

-- the path brings that many people to moment k
abbrev pub CarriesPeople : Network → ℕ → List PathStep → ℕ → Type 0
CarriesPeople w k path people = (e : End) × IsAugmentingPath w path people e k

-- marks for the nodes and moments of a network
pub record IsMarksOf (s : Site) (m : MarkTable) : Type 0 where
  pub marks : IsMarks m
  pub nodes : m.nodes ≡ s.shape.nodes
  pub horizon : m.horizon ≡ s.shape.horizon

-- other marks on the same nodes and moments
pub record IsMarkedOn (m v : MarkTable) : Type 0 where
  pub nodes : v.nodes ≡ m.nodes
  pub horizon : v.horizon ≡ m.horizon
  pub marks : IsMarks m → IsMarks v

-- a node was marked at no moment from one up to another, is marked at each of them now, and no mark is taken off
pub record IsMarkedOver (m v : MarkTable) (n from past : ℕ) : Type 0 where
  pub fresh : (t : ℕ) → from ≤ t → t < past → IsFalse (is_marked m n t)
  pub here : (t : ℕ) → from ≤ t → t < past → IsTrue (is_marked v n t)
  pub others : (i t : ℕ) → IsTrue (is_marked m i t) → IsTrue (is_marked v i t)
