-- Cards: the way of each person, a deal of a plan, and that who came first leaves first.
use Rattle.std.specs.Prelude.{◌≡◌, ℕ, ◌<◌, ◌≤◌, ◌⊎◌, List, [], ◌∷◌, map}
use Rattle.std.specs.List.{All, AllPairs, flat_map}
use Rattle.evac_law.specs.declared.model.Model.{Model}
use Rattle.evac_law.specs.declared.plan.Move.{Move}
use Rattle.evac_law.specs.Building.{arrival, head}
use Rattle.route_decompose.specs.declared.route.RouteStep.{RouteStep}
use Rattle.route_decompose.specs.Routes.{Covers, RouteView}

-- a card: the node and the moment at which a person comes in, and the arcs that the person enters, each with its moment
pub record CardView : Type 0 where
  pub start : ℕ
  pub entered : ℕ
  pub steps : List RouteStep

-- a card as a route of one person
abbrev pub as_route : CardView → RouteView
as_route c = record { people = 1; start = c.start; entered = c.entered; steps = c.steps }

-- cards are a deal of a plan where, as routes of one person each, they cover it
abbrev pub IsDeal : Model → List Move → List CardView → Type 0
IsDeal m p cards = Covers m p (map as_route cards)

-- a visit: when somebody comes to a node, by entry or by arrival, and when that person next leaves it
pub record Visit : Type 0 where
  pub node : ℕ
  pub comes : ℕ
  pub leaves : ℕ

-- the visits of a card, from a node at a moment on
abbrev pub visits_from : Model → ℕ → ℕ → List RouteStep → List Visit
visits_from m n t [] = []
visits_from m n t (s ∷ steps) =
    record { node = n; comes = t; leaves = s.moment } ∷ visits_from m (head m s.arc) (arrival m s.arc s.moment) steps

abbrev pub visits_of : Model → CardView → List Visit
visits_of m c = visits_from m c.start c.entered c.steps

-- first in, first out: of any two visits to one node, the one that comes earlier doesn't leave later
abbrev pub IsFirstInFirstOut : List Visit → Type 0
IsFirstInFirstOut visits = All (λ v. All (λ w. v.node ≡ w.node → v.comes < w.comes → v.leaves ≤ w.leaves) visits) visits

-- one card is before another: its start is an earlier node, or the same node and no later moment
abbrev pub DealtBefore : CardView → CardView → Type 0
DealtBefore c d = (c.start < d.start) ⊎ ((c.start ≡ d.start) × (c.entered ≤ d.entered))

-- the cards are a deal of the plan, first in first out at every node, by start node and then by entry moment
pub record IsFairDeal (m : Model) (p : List Move) (cards : List CardView) : Type 0 where
  pub deal : IsDeal m p cards
  pub first_out : IsFirstInFirstOut (flat_map (visits_of m) cards)
  pub ordered : AllPairs DealtBefore cards
