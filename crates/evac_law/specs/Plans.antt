-- Plans: lists of moves, what they do to the nodes, and who is out by when.
use Rattle.std.specs.Prelude.{◌≡◌, ℕ, ◌+◌, ◌-◌, ◌*◌, ◌<◌, ◌≤◌, ◌&&◌, if◌then◌else◌, ◌==◌, nat_le, max, List, [], ◌∷◌, length, IsFalse, ℤ, pos, negsuc, ◌+ℤ◌, ◌-ℤ◌, ◌≤ℤ◌}
use Rattle.std.specs.List.{sum_by, All}
use Rattle.evac_law.specs.declared.model.Model.{Model}
use Rattle.evac_law.specs.declared.plan.Move.{Move}
use Rattle.evac_law.specs.Building.{is_exit_at, capacity, tail, head, arrival, rate, entry, people}
use Rattle.evac_law.specs.Sums.{moments_to, places}

-- the people who enter an arc at a moment
unfoldable pub moved : List Move → ℕ → ℕ → ℕ
moved p a t = sum_by (λ v. if v.arc == a && v.moment == t then v.people else 0) p

-- the people who came into a node by a moment, from nowhere or along arcs
unfoldable pub came : Model → List Move → ℕ → ℕ → ℕ
came m p n t =
    sum_by (entry m n) (moments_to t)
    + sum_by (λ v. if head m v.arc == n && nat_le (arrival m v.arc v.moment) t then v.people else 0) p

-- the people who left a node by a moment
unfoldable pub left : Model → List Move → ℕ → ℕ → ℕ
left m p n t = sum_by (λ v. if tail m v.arc == n && nat_le v.moment t then v.people else 0) p

-- the people who leave a node at a moment
unfoldable pub leaving : Model → List Move → ℕ → ℕ → ℕ
leaving m p n t = sum_by (λ v. if tail m v.arc == n && v.moment == t then v.people else 0) p

-- the people who come to a node at a moment along arcs
unfoldable pub coming : Model → List Move → ℕ → ℕ → ℕ
coming m p n t = sum_by (λ v. if head m v.arc == n && arrival m v.arc v.moment == t then v.people else 0) p

-- the people in a node at a moment, an integer: those who came less those who left
unfoldable pub held : Model → List Move → ℕ → ℕ → ℤ
held m p n t = pos (came m p n t) -ℤ pos (left m p n t)

-- each move names an arc, and up to moment k every arc keeps its rate and every node that is no exit its capacity
pub record IsFeasible (m : Model) (p : List Move) (k : ℕ) : Type 0 where
  pub arcs : All (λ v. v.arc < length m.arcs) p
  pub rates : (a t : ℕ) → a < length m.arcs → t ≤ k → moved p a t ≤ rate m a t
  pub holds : (n t : ℕ) → n < length m.nodes → IsFalse (is_exit_at m n) → t ≤ k
      → (pos 0 ≤ℤ held m p n t) × (held m p n t ≤ℤ pos (capacity m n))

-- the people who are out by moment k: those of the moves into exits that arrive by then
unfoldable pub out_by : Model → List Move → ℕ → ℕ
out_by m p k = sum_by (λ v. if is_exit_at m (head m v.arc) && nat_le (arrival m v.arc v.moment) k then v.people else 0) p

-- no feasible plan has more people out by any moment: the plan is an earliest arrival flow
abbrev pub IsEarliest : Model → List Move → Type 0
IsEarliest m p = (q : List Move) (k : ℕ) → IsFeasible m q k → out_by m q k ≤ out_by m p k

-- a plan is feasible up to the horizon, and has everybody out by then
pub record TakesAllOut (m : Model) (p : List Move) : Type 0 where
  pub feasible : IsFeasible m p m.horizon
  pub all_out : out_by m p m.horizon ≡ people m

-- at moment k nobody is in a node that is no exit, nobody who has entered an arc is still on it, and nobody comes in later
pub record NobodyIsLeft (m : Model) (p : List Move) (k : ℕ) : Type 0 where
  pub nobody_inside : (n : ℕ) → n < length m.nodes → IsFalse (is_exit_at m n) → held m p n k ≡ pos 0
  pub nobody_on_way : All (λ v. 0 < v.people → v.moment ≤ k → arrival m v.arc v.moment ≤ k) p
  pub nobody_to_come : (n t : ℕ) → n < length m.nodes → k < t → entry m n t ≡ 0

-- people times arrival moment, over the moves into exits that arrive by the horizon
unfoldable pub person_periods : Model → List Move → ℕ
person_periods m p =
    sum_by (λ v. if is_exit_at m (head m v.arc) && nat_le (arrival m v.arc v.moment) m.horizon then v.people * arrival m v.arc v.moment else 0) p

-- the last moment at which a move arrives, or 0
unfoldable pub last_arrival : Model → List Move → ℕ
last_arrival m [] = 0
last_arrival m (v ∷ p) = max (arrival m v.arc v.moment) (last_arrival m p)

-- how far an integer is above a number, or 0
abbrev pub above : ℤ → ℕ → ℕ
above (pos z) c = z - c
above (negsuc z) c = 0

-- the people who are in a node at a moment, with those who leave it just then
abbrev pub inside : Model → List Move → ℕ → ℕ → ℕ
inside m p n t = above (held m p n t +ℤ pos (leaving m p n t)) 0

-- the people who stay in a node from a moment to the next; nobody stays in an exit
abbrev pub staying : Model → List Move → ℕ → ℕ → ℕ
staying m p n t = if is_exit_at m n then 0 else above (held m p n t) 0

-- the people above the rates, above the capacities and above the entries of the edited model m' in a plan of m
unfoldable pub violation : Model → List Move → Model → ℕ
violation m p m' =
    sum_by (λ a. sum_by (λ t. moved p a t - rate m' a t) (moments_to m.horizon)) (places m.arcs)
    + (sum_by (λ n. sum_by (λ t. if is_exit_at m n then 0 else above (held m p n t) (capacity m' n)) (moments_to m.horizon)) (places m.nodes)
    + sum_by (λ n. sum_by (λ t. entry m n t - entry m' n t) (moments_to m.horizon)) (places m.nodes))
