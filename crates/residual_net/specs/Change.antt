-- What becomes of a net when a limit is set, and when flow is taken off.
use Rattle.std.specs.Prelude.{◌≡◌, ◌≢◌, ℕ, ◌+◌, ◌≤◌, ◌<◌, if◌then◌else◌, List, length, slice_index, Option, MatchOption, IsFalse}
use Rattle.std.specs.List.{All, AllPairs, Any}
use Rattle.residual_net.specs.declared.place.Place.{Place}
use Rattle.residual_net.specs.declared.place.Place.TheVariants.{Arc}
use Rattle.time_expansion.specs.Expansion.{to_at}
use Rattle.residual_net.specs.declared.place.PathStep.{PathStep}
use Rattle.residual_net.specs.declared.end.End.{End}
use Rattle.residual_net.specs.declared.end.End.TheVariants.{Source, Pair, Door}
use Rattle.residual_net.specs.Site.{Site, IsPlace, arrival_at, at, is_source, same_place, sum_places, tail_of}
use Rattle.residual_net.specs.Network.{Network, IsGrid, IsStored, excess_at, flow_at, limit_at}
use Rattle.residual_net.specs.Route.{Leads, added}

-- the limits of all supplies together, with another limit at a place
unfoldable pub supply_limits_with : Network → Place → ℕ → ℕ
supply_limits_with w p people =
    sum_places w.site (λ q. if is_source (tail_of w.site q) then (if same_place p q then people else limit_at w q) else 0)

-- one limit is another, and nothing else changes
pub record IsLimitSet (w v : Network) (p : Place) (people : ℕ) : Type 0 where
  pub site : v.site ≡ w.site
  pub saved : v.saved ≡ w.saved
  pub flows : (q : Place) → IsPlace w.site q → flow_at v q ≡ flow_at w q
  pub limits : (q : Place) → IsPlace w.site q → limit_at v q ≡ (if same_place p q then people else limit_at w q)

-- a step forwards over a place with flow
abbrev pub IsAlong : Network → PathStep → Type 0
IsAlong w x = IsFalse x.back × IsPlace w.site x.place × (0 < flow_at w x.place)

-- how far on an end is: the source comes first, and then the moments
abbrev pub rank : End → ℕ
rank Source = 0
rank (Pair n t) = t + 1
rank (Door t) = t + 1

-- a walk along flow from one end to another and over a place, with no more steps than the ends are apart
pub record IsWalk (w : Network) (p : Place) (path : List PathStep) (e f : End) : Type 0 where
  pub along : All (IsAlong w) path
  pub leads : Leads w.site e path f
  pub through : Any (λ x. x.place ≡ p) path
  pub short : length path + rank e ≤ rank f

-- the arc, where there is one with flow, leads into a node at a moment, and else no arc with flow does
abbrev pub IsArcInto : Network → ℕ → ℕ → Option Place → Type 0
IsArcInto w n t r =
    MatchOption r
    ((a s : ℕ) → IsPlace w.site (Arc a s) → to_at w.site.shape a ≡ n → arrival_at w.site a s ≡ t → flow_at w (Arc a s) ≡ 0)
    (λ p. (a : ℕ) × (s : ℕ) × (p ≡ Arc a s) × IsPlace w.site p × (to_at w.site.shape a ≡ n) × (arrival_at w.site a s ≡ t) × (0 < flow_at w p))

-- the people are taken off each place of a path forwards, and nothing else changes
pub record IsTaken (w v : Network) (path : List PathStep) (people : ℕ) : Type 0 where
  pub site : v.site ≡ w.site
  pub saved : v.saved ≡ w.saved
  pub limits : (q : Place) → IsPlace w.site q → limit_at v q ≡ limit_at w q
  pub flows : (q : Place) → IsPlace w.site q → flow_at v q + added path people q ≡ flow_at w q

-- a flow path leads forwards from a supply to an arrival at moment k, over no place twice
pub record IsFlowPath (s : Site) (path : List PathStep) (k : ℕ) : Type 0 where
  pub forwards : All (λ x. IsFalse x.back) path
  pub places : All (λ x. IsPlace s x.place) path
  pub leads : Leads s Source path (Door k)
  pub apart : AllPairs (λ x y. x.place ≢ y.place) path

-- some people, whom each place of a flow path has
pub record IsTakeable (w : Network) (path : List PathStep) (people : ℕ) : Type 0 where
  pub some : 1 ≤ people
  pub arrives : (k : ℕ) × IsFlowPath w.site path k
  pub enough : All (λ x. people ≤ flow_at w x.place) path

-- some people, at most a number, whom each place of a path has
pub record IsLeastAlong (w : Network) (path : List PathStep) (most people : ℕ) : Type 0 where
  pub some : 1 ≤ people
  pub within : people ≤ most
  pub enough : All (λ x. people ≤ flow_at w x.place) path

-- some people, at most the excess of a place, are taken off each place of one flow path through it, and nothing else changes
pub record IsCancelled (w v : Network) (p : Place) (path : List PathStep) (people : ℕ) : Type 0 where
  pub some : 1 ≤ people
  pub most : people ≤ excess_at w p
  pub arrives : (k : ℕ) × IsFlowPath w.site path k
  pub through : Any (λ x. x.place ≡ p) path
  pub taken : IsTaken w v path people

-- two lists differ by some people at an end, where it is an arrival
pub record IsFewerBy (fewer more : List ℕ) (end : End) (people : ℕ) : Type 0 where
  pub length_same : length fewer ≡ length more
  pub each : (j : ℕ) → slice_index fewer j + (if at (Door j) end then people else 0) ≡ slice_index more j

-- the cells are those after people were taken off a flow path, and the arrivals kept are those before
pub record IsLowering (v : Network) (arrivals : List ℕ) (path : List PathStep) (people : ℕ) : Type 0 where
  pub before : Network
  pub stored : IsStored before arrivals
  pub takeable : IsTakeable before path people
  pub taken : IsTaken before v path people
  pub grid : IsGrid v
