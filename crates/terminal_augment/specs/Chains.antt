-- Pairs that were met on the way back from an arrival, the last one first, each with the step by which it was.
use Rattle.std.specs.Prelude.{◌≡◌, ℕ, ◌<◌, Bool, false, ◌&&◌, ◌==◌, if◌then◌else◌, List, [], ◌∷◌, map, IsFalse, IsTrue}
use Rattle.residual_net.specs.declared.place.PathStep.{PathStep}
use Rattle.residual_net.specs.Network.{Network, residual_room}
use Rattle.residual_net.specs.Route.{IsOrigin}
use Rattle.residual_net.specs.declared.end.End.{End}
use Rattle.residual_net.specs.declared.end.End.TheVariants.{Source, Pair, Door}
use Rattle.residual_net.specs.Site.{Site, IsOpenPair, IsPlace, start_of, stop_of}
use Rattle.terminal_augment.specs.declared.spot.Met.{Met}
use Rattle.terminal_augment.specs.declared.spot.Spot.{Spot}
use Rattle.terminal_augment.specs.Spots.{has}

-- the pairs
abbrev pub spots : List Met → List Spot
spots = map (λ m. m.spot)

-- the steps by which they were met
abbrev pub steps_of : List Met → List PathStep
steps_of = map (λ m. m.step)

-- ---- what a flood keeps

-- an end is one of some pairs, or the arrival at moment k
abbrev pub IsAmong : ℕ → List Spot → End → Type 0
IsAmong k ps Source = ⊥
IsAmong k ps (Pair n t) = IsTrue (has ps n t)
IsAmong k ps (Door j) = j ≡ k

-- a step with room leads from the pair to one that was met before it, or to an arrival at moment k
pub record IsMet (w : Network) (k : ℕ) (m : Met) (before : List Met) : Type 0 where
  pub inside : IsOpenPair w.site m.spot.node m.spot.moment
  pub place : IsPlace w.site m.step.place
  pub room : 0 < residual_room w m.step
  pub start : start_of w.site m.step ≡ Pair m.spot.node m.spot.moment
  pub stop : IsAmong k (spots before) (stop_of w.site m.step)
  pub fresh : IsFalse (has (spots before) m.spot.node m.spot.moment)

-- each pair was met so
abbrev pub AreMet : Network → ℕ → List Met → Type 0
AreMet w k [] = Unit {0}
AreMet w k (m ∷ ms) = IsMet w k m ms × AreMet w k ms

-- a step with room leads to one of the pairs from the source or from a later arrival
pub record IsFound (w : Network) (k : ℕ) (ms : List Met) (y : PathStep) : Type 0 where
  pub some : 0 < residual_room w y
  pub place : IsPlace w.site y.place
  pub stop : IsAmong k (spots ms) (stop_of w.site y)
  pub origin : IsOrigin k (start_of w.site y)

-- ---- the path

-- whether an end is a pair
abbrev pub is_at : End → Spot → Bool
is_at Source p = false
is_at (Pair n t) p = p.node == n && p.moment == t
is_at (Door j) p = false

-- those of the pairs that the way on from an end goes over, each by the step by which it was met
abbrev pub way_on : Site → End → List Met → List Met
way_on s e [] = []
way_on s e (m ∷ ms) = if is_at e m.spot then m ∷ way_on s (stop_of s m.step) ms else way_on s e ms

-- the end at which a way begins that leads to an arrival at moment k
abbrev pub top_end : ℕ → List Met → End
top_end k [] = Door k
top_end k (m ∷ ms) = Pair m.spot.node m.spot.moment

-- a step leads from a pair to the way on, which doesn't come to that pair again
pub record IsLink (s : Site) (k : ℕ) (m : Met) (ms : List Met) : Type 0 where
  pub inside : IsOpenPair s m.spot.node m.spot.moment
  pub place : IsPlace s m.step.place
  pub start : start_of s m.step ≡ Pair m.spot.node m.spot.moment
  pub stop : stop_of s m.step ≡ top_end k ms
  pub fresh : IsFalse (has (spots ms) m.spot.node m.spot.moment)

-- the steps lead to an arrival at moment k
abbrev pub IsChain : Site → ℕ → List Met → Type 0
IsChain s k [] = Unit {0}
IsChain s k (m ∷ ms) = IsLink s k m ms × IsChain s k ms
