-- What is left of a plan while it is handed out, and its balance.
use Rattle.std.specs.Prelude.{◌≡◌, ℕ, zero, suc, ◌+◌, ◌-◌, ◌<◌, ◌≤◌, ◌&&◌, if◌then◌else◌, ◌==◌, nat_le, List, [], ◌∷◌, length, slice_index_or, IsFalse, IsTrue, ◌⊎◌}
use Rattle.std.specs.List.{sum_by}
use Rattle.evac_law.specs.declared.model.Model.{Model}
use Rattle.evac_law.specs.Building.{IsValid, arc_at, arrival, entry, head, is_exit_at, tail}
use Rattle.evac_law.specs.Plans.{moved}
use Rattle.evac_law.specs.Stands.{Stand}
use Rattle.evac_law.specs.Sums.{places}
use Rattle.route_decompose.specs.declared.route.RouteStep.{RouteStep}
use Rattle.route_decompose.specs.Routes.{LeadsOut, enters}
use Rattle.plan_layout.specs.Tables.{PeopleTable, people_at}
use Rattle.route_decompose.specs.Places.{IsLess, places_in}

-- of a model: the people left on each arc at each moment, those who stay in each node from a moment to the next, and those who come into
-- each node at each moment from nowhere
pub record Stock : Type 0 where
  pub model : Model
  pub left : PeopleTable
  pub holds : PeopleTable
  pub waiting : PeopleTable

-- in how many places somebody is left
abbrev pub used : Stock → ℕ
used s = places_in s.left + places_in s.holds + places_in s.waiting

-- somebody is left in at least one place fewer; or all went who were to go, and somebody is left in no more places than before
abbrev pub Empties : Stock → Stock → ℕ → ℕ → Type 0
Empties s v people most = (used v + 1 ≤ used s) ⊎ ((people ≡ most) × (used v ≤ used s))

-- the model is valid, and the tables have its sizes
pub record IsStock (s : Stock) : Type 0 where
  pub valid : IsValid s.model
  pub left_rows : s.left.rows ≡ length s.model.arcs
  pub left_last : s.left.last ≡ s.model.horizon
  pub hold_rows : s.holds.rows ≡ length s.model.nodes
  pub hold_last : s.holds.last ≡ s.model.horizon
  pub wait_rows : s.waiting.rows ≡ length s.model.nodes
  pub wait_last : s.waiting.last ≡ s.model.horizon

-- the people who come to a node at a moment along arcs
unfoldable pub left_coming : Stock → ℕ → ℕ → ℕ
left_coming s n t =
    sum_by (λ a. if head s.model a == n && nat_le (arc_at s.model a).travel t then people_at s.left a (t - (arc_at s.model a).travel) else 0) (places s.model.arcs)

-- the people who leave a node at a moment along arcs
unfoldable pub going : Stock → ℕ → ℕ → ℕ
going s n t = sum_by (λ a. if tail s.model a == n then people_at s.left a t else 0) (places s.model.arcs)

-- the people who stay in a node until a moment
abbrev pub stayed : PeopleTable → ℕ → ℕ → ℕ
stayed holds n zero = 0
stayed holds n (suc t) = people_at holds n t

-- the people who are in a node at a moment before those come who come along arcs: who stayed, and who come from nowhere
abbrev pub before : Stock → ℕ → ℕ → ℕ
before s n t = stayed s.holds n t + people_at s.waiting n t

-- whoever comes to a node leaves it or stays; but for some people, who are gone from one node at one moment
abbrev pub IsBalancedBut : Stock → ℕ → ℕ → ℕ → Type 0
IsBalancedBut s c u p =
    (n t : ℕ) → n < length s.model.nodes → IsFalse (is_exit_at s.model n) → t ≤ s.model.horizon
    → before s n t + left_coming s n t ≡ people_at s.holds n t + going s n t + (if c == n && u == t then p else 0)

-- everybody gets out in time
pub record IsClosing (s : Stock) : Type 0 where
  pub none_stay : (n : ℕ) → n < length s.model.nodes → IsFalse (is_exit_at s.model n) → people_at s.holds n s.model.horizon ≡ 0
  pub in_time : (a t : ℕ) → a < length s.model.arcs → 0 < people_at s.left a t → arrival s.model a t ≤ s.model.horizon
  pub from_inside : (n t : ℕ) → n < length s.model.nodes → 0 < people_at s.waiting n t → IsFalse (is_exit_at s.model n)

-- what is left is itself a plan that has everybody out
pub record IsOpen (s : Stock) : Type 0 where
  pub stock : IsStock s
  pub balanced : IsBalancedBut s 0 0 0
  pub closing : IsClosing s

-- what is left is a plan, and by it somebody is in a node, which is no exit, at a moment up to the horizon
pub record IsLeadable (s : Stock) (n t : ℕ) : Type 0 where
  pub left : IsOpen s
  pub node_in : n < length s.model.nodes
  pub inside : IsFalse (is_exit_at s.model n)
  pub moment_in : t ≤ s.model.horizon
  pub someone : 0 < before s n t + left_coming s n t

-- some people are taken off an arc at a moment, and the rest is as before
pub record IsLessLeft (s v : Stock) (a t p : ℕ) : Type 0 where
  pub model : v.model ≡ s.model
  pub less : IsLess s.left v.left a t p
  pub holds : v.holds ≡ s.holds
  pub waiting : v.waiting ≡ s.waiting

-- some people are taken off those who stay in a node from a moment to the next, and the rest is as before
pub record IsLessHeld (s v : Stock) (n t p : ℕ) : Type 0 where
  pub model : v.model ≡ s.model
  pub left : v.left ≡ s.left
  pub less : IsLess s.holds v.holds n t p
  pub waiting : v.waiting ≡ s.waiting

-- some people went from a node at a moment into an exit, along steps and holds, and are taken off these
pub record IsLedOut (s v : Stock) (n t p : ℕ) (steps : List RouteStep) : Type 0 where
  pub same_model : v.model ≡ s.model
  pub same_waiting : v.waiting ≡ s.waiting
  pub leads : LeadsOut s.model n t steps
  pub left : (a k : ℕ) → people_at v.left a k + (if enters steps a k then p else 0) ≡ people_at s.left a k
  pub holds : (i k : ℕ) → people_at v.holds i k ≤ people_at s.holds i k
  pub earlier_holds : (i k : ℕ) → k < t → people_at v.holds i k ≡ people_at s.holds i k
  pub stock : IsStock v
  pub balanced : IsBalancedBut v n t p

-- the stock has the people of a plan of its model
pub record IsStockOf (f : Stand) (s : Stock) : Type 0 where
  pub moves : (a t : ℕ) → a < s.left.rows → t ≤ s.left.last → people_at s.left a t ≡ moved f.plan a t
  pub stays : (n t : ℕ) → n < s.holds.rows → t ≤ s.holds.last → people_at s.holds n t ≡ f.contents n t
  pub starts : (n t : ℕ) → n < s.waiting.rows → t ≤ s.waiting.last → people_at s.waiting n t ≡ entry s.model n t

-- nobody waits in the first rows of a table
abbrev pub IsPassed : PeopleTable → ℕ → Type 0
IsPassed c first = (n t : ℕ) → n < first → people_at c n t ≡ 0

-- nobody is in the stock
abbrev pub IsEmpty : Stock → Type 0
IsEmpty s = ((a t : ℕ) → people_at s.left a t ≡ 0) × ((n t : ℕ) → people_at s.holds n t ≡ 0) × ((n t : ℕ) → people_at s.waiting n t ≡ 0)

-- a list of steps in memory that is reserved once
pub record TrailView : Type 0 where
  pub steps : List RouteStep
  pub room : ℕ

-- what is kept between routes: what is left is a plan, and there is room for the steps of a route
pub record IsRoutes (s : Stock) (t : TrailView) : Type 0 where
  pub left : IsOpen s
  pub room : s.model.horizon ≤ t.room

-- ---- people who stay

-- at least p people stay in a node from a moment until another
abbrev pub Stay : Stock → ℕ → ℕ → ℕ → ℕ → Type 0
Stay s n t u p = (k : ℕ) → t ≤ k → k < u → p ≤ people_at s.holds n k

-- just p people stay there from one of these moments to the next
abbrev pub AllStay : Stock → ℕ → ℕ → ℕ → ℕ → Type 0
AllStay s n t u p = (k : ℕ) × (t ≤ k) × (k < u) × (people_at s.holds n k ≡ p)

-- of some people in a node at a moment, p stay until u, when nobody stays any more; the others can't stay with them
pub record IsStay (s : Stock) (n t some u p : ℕ) : Type 0 where
  pub leadable : IsLeadable s n u
  pub later : t ≤ u
  pub somebody : 1 ≤ p
  pub few : p ≤ some
  pub stay : Stay s n t u p
  pub over : people_at s.holds n u ≡ 0
  pub all : (p ≡ some) ⊎ AllStay s n t u p

-- somebody may be taken off those who stay in a node from a moment until another
pub record MayStay (s : Stock) (n t u p : ℕ) : Type 0 where
  pub stock : IsStock s
  pub node_in : n < length s.model.nodes
  pub later : t ≤ u
  pub until_in : u ≤ s.model.horizon
  pub somebody : 1 ≤ p
  pub stay : Stay s n t u p

-- whoever is led out from u on, with the first stock left, is led out from t on, with the second left
abbrev pub LedEarlier : Stock → Stock → ℕ → ℕ → ℕ → ℕ → Type 0
LedEarlier v w n t u p = (s : Stock) (steps : List RouteStep) → IsLedOut s v n u p steps → IsLedOut s w n t p steps

-- people are taken off those who stay in a node from t until u
pub record IsStayTaken (v w : Stock) (n t u p : ℕ) : Type 0 where
  pub led : LedEarlier v w n t u p
  pub fewer : used w ≤ used v
  pub emptied : AllStay v n t u p → used w + 1 ≤ used v

-- ---- the way of people who are led out

-- p people can go from a node at a moment along steps into an exit: so many stay before each step, and so many are left on its arc
abbrev pub CanGo : Stock → ℕ → ℕ → ℕ → List RouteStep → Type 0
CanGo s n t p [] = IsTrue (is_exit_at s.model n)
CanGo s n t p (x ∷ steps) =
    (x.arc < length s.model.arcs) × (tail s.model x.arc ≡ n) × (t ≤ x.moment) × (x.moment ≤ s.model.horizon) × Stay s n t x.moment p
    × (p ≤ people_at s.left x.arc x.moment) × CanGo s (head s.model x.arc) (arrival s.model x.arc x.moment) p steps

-- somewhere on this way just p people stay, or just p are left on an arc
abbrev pub AllGo : Stock → ℕ → ℕ → ℕ → List RouteStep → Type 0
AllGo s n t p [] = ⊥
AllGo s n t p (x ∷ steps) =
    AllStay s n t x.moment p ⊎ ((people_at s.left x.arc x.moment ≡ p) ⊎ AllGo s (head s.model x.arc) (arrival s.model x.arc x.moment) p steps)

-- of some people in a node at a moment, p can go along steps into an exit; the others can't go with them
pub record IsLaid (s : Stock) (n t some p : ℕ) (steps : List RouteStep) : Type 0 where
  pub somebody : 1 ≤ p
  pub few : p ≤ some
  pub way : CanGo s n t p steps
  pub all : (p ≡ some) ⊎ AllGo s n t p steps

-- what stands past the end of some steps
abbrev pub no_step : RouteStep
no_step = record { moment = 0; arc = 0 }

-- the node in which people are before the step with a number, and the moment at which they come there
abbrev pub node_before : Model → ℕ → List RouteStep → ℕ → ℕ
node_before m n steps zero = n
node_before m n steps (suc i) = head m (slice_index_or steps i no_step).arc

abbrev pub moment_before : Model → ℕ → List RouteStep → ℕ → ℕ
moment_before m t steps zero = t
moment_before m t steps (suc i) = let x = slice_index_or steps i no_step in arrival m x.arc x.moment
