-- Routes: people who go from a node along arcs into an exit, and routes that make up a plan.
use Rattle.std.specs.Prelude.{◌≡◌, ℕ, ◌+◌, ◌≤◌, ◌<◌, Bool, ◌&&◌, ◌==◌, if◌then◌else◌, List, [], ◌∷◌, length, IsTrue}
use Rattle.std.specs.List.{All, list_any, sum_by}
use Rattle.evac_law.specs.declared.model.Model.{Model}
use Rattle.evac_law.specs.declared.plan.Move.{Move}
use Rattle.evac_law.specs.Building.{arrival, entry, head, is_exit_at, tail}
use Rattle.evac_law.specs.Plans.{moved, staying}
use Rattle.plan_layout.specs.Tables.{PeopleTable, people_at}
use Rattle.route_decompose.specs.Places.{places_with}
use Rattle.route_decompose.specs.declared.route.RouteStep.{RouteStep}

-- some people, the node and the moment at which they come in, and the arcs that they enter, each with its moment
pub record RouteView : Type 0 where
  pub people : ℕ
  pub start : ℕ
  pub entered : ℕ
  pub steps : List RouteStep

-- from a node, and not before a moment, the steps lead from arc to arc into an exit
abbrev pub LeadsOut : Model → ℕ → ℕ → List RouteStep → Type 0
LeadsOut m n t [] = IsTrue (is_exit_at m n)
LeadsOut m n t (s ∷ steps) =
    (s.arc < length m.arcs) × (tail m s.arc ≡ n) × (t ≤ s.moment) × LeadsOut m (head m s.arc) (arrival m s.arc s.moment) steps

-- somebody goes, by at least one step
pub record IsRoute (m : Model) (r : RouteView) : Type 0 where
  pub somebody : 1 ≤ r.people
  pub some_step : 1 ≤ length r.steps
  pub leads_out : LeadsOut m r.start r.entered r.steps

-- whether some steps enter an arc at a moment
abbrev pub enters : List RouteStep → ℕ → ℕ → Bool
enters steps a t = list_any (λ s. s.arc == a && s.moment == t) steps

-- whether a route begins in a node at a moment
abbrev pub begins : RouteView → ℕ → ℕ → Bool
begins r n t = r.start == n && r.entered == t

-- the people of the routes that enter an arc at a moment, and of those that begin in a node at a moment
abbrev pub routed : List RouteView → ℕ → ℕ → ℕ
routed routes a t = sum_by (λ r. if enters r.steps a t then r.people else 0) routes

abbrev pub started : List RouteView → ℕ → ℕ → ℕ
started routes n t = sum_by (λ r. if begins r n t then r.people else 0) routes

-- the routes make up a plan: as many enter each arc at each moment as in the plan, and as many begin in each node at each moment as
-- come in there in the model
pub record Covers (m : Model) (p : List Move) (routes : List RouteView) : Type 0 where
  pub ways : All (IsRoute m) routes
  pub arcs : (a t : ℕ) → routed routes a t ≡ moved p a t
  pub starts : (n t : ℕ) → started routes n t ≡ entry m n t

-- how many places a plan uses: arcs at the moments at which they are entered, nodes at those from which somebody stays, and nodes at those at which
-- somebody comes in from nowhere
abbrev pub places_of : Model → List Move → ℕ
places_of m p =
    places_with (length m.arcs) m.horizon (moved p) + places_with (length m.nodes) m.horizon (staying m p)
    + places_with (length m.nodes) m.horizon (entry m)

-- what is left to hand out: by moves and by entries, of a model; in how many places somebody is left; and the route handed out last
pub record RoutesView : Type 0 where
  pub model : Model
  pub left : PeopleTable
  pub waiting : PeopleTable
  pub places : ℕ
  pub route : RouteView

-- the people of a move that are left, and those of an entry
abbrev pub people_left : RoutesView → ℕ → ℕ → ℕ
people_left w a t = people_at w.left a t

abbrev pub waiting_at : RoutesView → ℕ → ℕ → ℕ
waiting_at w n t = people_at w.waiting n t

-- nothing of a plan is handed out yet
pub record IsAllLeft (m : Model) (p : List Move) (w : RoutesView) : Type 0 where
  pub same_model : w.model ≡ m
  pub all_left : (a t : ℕ) → people_left w a t ≡ moved p a t
  pub all_wait : (n t : ℕ) → waiting_at w n t ≡ entry m n t
  pub all_places : w.places ≡ places_of m p

-- a route is handed out: its people are left no more, and somebody is left in at least one place fewer
pub record HandsOut (w v : RoutesView) : Type 0 where
  pub same_model : v.model ≡ w.model
  pub right : IsRoute w.model v.route
  pub fewer : (a t : ℕ) → people_left v a t + (if enters v.route.steps a t then v.route.people else 0) ≡ people_left w a t
  pub fewer_wait : (n t : ℕ) → waiting_at v n t + (if begins v.route n t then v.route.people else 0) ≡ waiting_at w n t
  pub fewer_places : v.places + 1 ≤ w.places

-- nothing is left
pub record IsUsedUp (w : RoutesView) : Type 0 where
  pub none_left : (a t : ℕ) → people_left w a t ≡ 0
  pub none_wait : (n t : ℕ) → waiting_at w n t ≡ 0
