-- Paths by their legs: waits in a node, and then a step.
use Rattle.std.specs.Prelude.{◌≡◌, ◌≢◌, ℕ, zero, suc, ◌+◌, ◌-◌, ◌≤◌, false, List, [], ◌∷◌, ◌++◌, slice_index_or, length}
use Rattle.std.specs.List.{All, AllPairs}
use Rattle.residual_net.specs.declared.legs.Leg.{Leg}
use Rattle.residual_net.specs.declared.place.Cell.{Cell}
use Rattle.residual_net.specs.declared.place.PathStep.{PathStep}
use Rattle.residual_net.specs.declared.place.Place.TheVariants.{Hold}
use Rattle.residual_net.specs.Network.{Network, residual_room}
use Rattle.residual_net.specs.Route.{IsUnderway}
use Rattle.residual_net.specs.declared.end.End.{End}
use Rattle.residual_net.specs.declared.end.End.TheVariants.{Source, Pair, Door}
use Rattle.residual_net.specs.Site.{Site, IsPlace, start_of}

-- the wait in a node from a moment to the next
abbrev pub wait_at : ℕ → ℕ → PathStep
wait_at n t = record { place = Hold n t; back = false }

-- so many waits in a node one after another, from a moment on
abbrev pub waits_at : ℕ → ℕ → ℕ → List PathStep
waits_at n t zero = []
waits_at n t (suc c) = wait_at n t ∷ waits_at n (t + 1) c

-- the waits in a node since a moment up to an end, or none where that is no pair
abbrev pub waits_to : End → ℕ → List PathStep
waits_to Source since = []
waits_to (Pair n t) since = waits_at n since (t - since)
waits_to (Door j) since = []

-- the steps of a leg: the waits before its step, and that one
abbrev pub steps_of_leg : Site → Leg → List PathStep
steps_of_leg s g = waits_to (start_of s g.step) g.since ++ g.step ∷ []

-- the steps of legs, one leg after another
abbrev pub steps_of_legs : Site → List Leg → List PathStep
steps_of_legs s [] = []
steps_of_legs s (g ∷ gs) = steps_of_leg s g ++ steps_of_legs s gs

-- a cell with more people over its place
abbrev pub with_more : ℕ → Cell → Cell
with_more people c = record { flow = c.flow + people; limit = c.limit }

-- some people may be sent over steps, one after another in any order
pub record IsShiftable (w : Network) (path : List PathStep) (people : ℕ) : Type 0 where
  pub places : All (λ x. IsPlace w.site x.place) path
  pub room : All (λ x. people ≤ residual_room w x) path
  pub apart : AllPairs (λ x y. x.place ≢ y.place) path

-- people are on their way over a path with this first and this last step
pub record IsUnderwayBetween (v : Network) (arrivals : List ℕ) (first last : PathStep) (people : ℕ) : Type 0 where
  pub path : List PathStep
  pub underway : IsUnderway v arrivals path people
  pub first_step : (d : PathStep) → slice_index_or path 0 d ≡ first
  pub last_step : (d : PathStep) → slice_index_or path (length path - 1) d ≡ last
