-- What proves that a plan is best at every period, and what proves that not everybody can get out.
use Rattle.std.specs.Prelude.{◌≡◌, ℕ, ◌+◌, ◌<◌, ◌≤◌, not, ◌&&◌, ◌||◌, nat_le, nat_lt, List, length, IsTrue, IsFalse, pos}
use Rattle.std.specs.List.{All}
use Rattle.evac_law.specs.declared.model.Model.{Model}
use Rattle.evac_law.specs.declared.plan.Move.{Move}
use Rattle.evac_law.specs.Building.{is_exit_at, capacity, tail, head, arrival, rate, people}
use Rattle.evac_law.specs.Cuts.{Cut, IsCut, leaves_cut, cut_value}
use Rattle.evac_law.specs.LabelTable.{LabelTable, label_at}
use Rattle.evac_law.specs.Plans.{moved, held, IsFeasible, out_by}

-- the labels are for the model's nodes and moments
pub record IsTableOf (m : Model) (l : LabelTable) : Type 0 where
  pub nodes : l.nodes ≡ length m.nodes
  pub horizon : l.horizon ≡ m.horizon

-- the cut of moment k by labels: the nodes at moments up to k whose label is above k, exits excepted
abbrev pub label_cut : Model → LabelTable → ℕ → Cut
label_cut m l k n t = nat_le t k && (not (is_exit_at m n) && nat_lt k (label_at l n t))

-- the cut that a block states for moment k: that of its labels before the clearing moment c, and no pair from then on
abbrev pub stated_cut : Model → LabelTable → ℕ → ℕ → Cut
stated_cut m l c k n t = nat_lt k c && label_cut m l k n t

-- the plan takes everybody out by c and not before, and up to then a cut at each moment is worth as many as are out
pub record IsCertified (m : Model) (p : List Move) (l : LabelTable) (c : ℕ) : Type 0 where
  pub in_horizon : c ≤ m.horizon
  pub feasible : IsFeasible m p c
  pub all_out : out_by m p c ≡ people m
  pub arrives : All (λ v. arrival m v.arc v.moment ≤ c) p
  pub cuts : (k : ℕ) → k < c → out_by m p k ≡ cut_value m (label_cut m l k) k
  pub least : (b : ℕ) → b + 1 ≡ c → out_by m p b < people m

-- a cut is worth v at the horizon, fewer than the people
pub record IsShortfall (m : Model) (x : Cut) (v : ℕ) : Type 0 where
  pub cut : IsCut m x
  pub worth : cut_value m x m.horizon ≡ v
  pub below_people : v < people m

-- some feasible plan takes everybody out by the horizon
abbrev pub IsClearable : Model → Type 0
IsClearable m = (p : List Move) × IsFeasible m p m.horizon × (out_by m p m.horizon ≡ people m)

-- the plan fills a cut of moment k: what leads out of the cut is full, and nothing leads into it, or past k from outside
pub record IsTight (m : Model) (p : List Move) (x : Cut) (k : ℕ) : Type 0 where
  pub holds_full : (n t : ℕ) → n < length m.nodes → IsFalse (is_exit_at m n) → t < k → IsTrue (x n t) → IsFalse (x n (t + 1))
      → held m p n t ≡ pos (capacity m n)
  pub holds_empty : (n t : ℕ) → n < length m.nodes → IsFalse (is_exit_at m n) → t < k → IsFalse (x n t) → IsTrue (x n (t + 1))
      → held m p n t ≡ pos 0
  pub nobody_left : (n : ℕ) → n < length m.nodes → IsFalse (is_exit_at m n) → IsFalse (x n k) → held m p n k ≡ pos 0
  pub arcs_full : (a t : ℕ) → a < length m.arcs → t ≤ k → IsTrue (leaves_cut m x k t a) → moved p a t ≡ rate m a t
  pub arcs_empty : (a t : ℕ) → a < length m.arcs → t ≤ k → IsFalse (x (tail m a) t)
      → IsFalse (nat_le (arrival m a t) k && (is_exit_at m (head m a) || not (x (head m a) (arrival m a t)))) → moved p a t ≡ 0
