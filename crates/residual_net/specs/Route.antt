-- Paths of residual steps, and what a push along one does.
use Rattle.std.specs.Prelude.{◌≡◌, ◌≢◌, ℕ, ◌+◌, ◌<◌, ◌≤◌, not, ◌&&◌, if◌then◌else◌, List, [], ◌∷◌}
use Rattle.std.specs.List.{All, AllPairs, sum_by}
use Rattle.residual_net.specs.declared.place.Place.{Place}
use Rattle.residual_net.specs.declared.place.PathStep.{PathStep}
use Rattle.residual_net.specs.declared.end.End.{End}
use Rattle.residual_net.specs.declared.end.End.TheVariants.{Source, Pair, Door}
use Rattle.residual_net.specs.Site.{Site, IsPlace, start_of, stop_of, same_place}
use Rattle.residual_net.specs.Network.{Network, IsGrid, IsStored, IsWithinLimits, flow_at, limit_at, residual_room}

-- the steps lead from one end to another, each from where the one before stops
abbrev pub Leads : Site → End → List PathStep → End → Type 0
Leads s e [] f = e ≡ f
Leads s e (x ∷ xs) f = (start_of s x ≡ e) × Leads s (stop_of s x) xs f

-- people may be sent on to moment k from the source, or from an arrival later than k
abbrev pub IsOrigin : ℕ → End → Type 0
IsOrigin k Source = Unit {0}
IsOrigin k (Pair n t) = ⊥
IsOrigin k (Door j) = k < j

-- a path that brings that many people to moment k
pub record IsAugmentingPath (w : Network) (path : List PathStep) (people : ℕ) (e : End) (k : ℕ) : Type 0 where
  pub origin : IsOrigin k e
  pub leads : Leads w.site e path (Door k)
  pub places : All (λ x. IsPlace w.site x.place) path
  pub room : All (λ x. people ≤ residual_room w x) path
  pub apart : AllPairs (λ x y. x.place ≢ y.place) path

-- the people that a path adds to a place by its steps forwards
unfoldable pub added : List PathStep → ℕ → Place → ℕ
added path people p = sum_by (λ x. if not x.back && same_place x.place p then people else 0) path

-- the people that a path takes off a place by its steps backwards
unfoldable pub taken : List PathStep → ℕ → Place → ℕ
taken path people p = sum_by (λ x. if x.back && same_place x.place p then people else 0) path

-- the people are added to each place of the path forwards and taken off each place backwards, and nothing else changes
pub record IsPushed (w v : Network) (path : List PathStep) (people : ℕ) : Type 0 where
  pub site : v.site ≡ w.site
  pub saved : v.saved ≡ w.saved
  pub limits : (p : Place) → IsPlace w.site p → limit_at v p ≡ limit_at w p
  pub flows : (p : Place) → IsPlace w.site p → flow_at v p + taken path people p ≡ flow_at w p + added path people p

-- a path as contracts see it: its steps, and how many it has room for
pub record Trail : Type 0 where
  pub steps : List PathStep
  pub room : ℕ

-- a path that some people can be sent along
abbrev pub IsPushable : Network → List PathStep → ℕ → Type 0
IsPushable w path people = (e : End) × (k : ℕ) × IsAugmentingPath w path people e k

-- the cells are those after a push, and the arrivals kept are those before it
pub record IsUnderway (v : Network) (arrivals : List ℕ) (path : List PathStep) (people : ℕ) : Type 0 where
  pub before : Network
  pub stored : IsStored before arrivals
  pub within : IsWithinLimits before
  pub pushable : IsPushable before path people
  pub pushed : IsPushed before v path people
  pub grid : IsGrid v
