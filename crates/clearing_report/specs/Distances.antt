-- The time that each node needs to an exit, as far as it is known.
use Rattle.std.specs.Prelude.{◌≡◌, ℕ, ◌+◌, ◌*◌, ◌<◌, ◌≤◌, List, length, slice_index_or, Option, Some, None, IsTrue}
use Rattle.std.specs.List.{sum_by}
use Rattle.evac_law.specs.declared.model.Model.{Model}
use Rattle.evac_law.specs.Building.{arc_at, head, is_exit_at, tail}
use Rattle.evac_law.specs.Limits.{travel_limit}
use Rattle.clearing_report.specs.Walks.{Walk, is_open, walk_time}

-- the time of a node; none where it isn't known
abbrev pub time_at : List (Option ℕ) → ℕ → Option ℕ
time_at times n = slice_index_or times n None

-- 1 for each node whose time isn't known
abbrev pub unknown : Option ℕ → ℕ
unknown None = 1
unknown (Some d) = 0

-- how many times aren't known
abbrev pub unknowns : List (Option ℕ) → ℕ
unknowns times = sum_by unknown times

-- each known time is that of a walk, and no walk from there takes less; that of an exit is 0
pub record AreTimes (m : Model) (times : List (Option ℕ)) : Type 0 where
  pub size : length times ≡ length m.nodes
  pub walks : (n d : ℕ) → time_at times n ≡ Some d → (arcs : List ℕ) × Walk m n arcs × (walk_time m arcs ≡ d)
  pub least : (n d : ℕ) → time_at times n ≡ Some d → (arcs : List ℕ) → Walk m n arcs → d ≤ walk_time m arcs
  pub exits : (n : ℕ) → n < length m.nodes → IsTrue (is_exit_at m n) → time_at times n ≡ Some 0
  pub few : (n d : ℕ) → time_at times n ≡ Some d → d + travel_limit * unknowns times ≤ travel_limit * length m.nodes

-- by an open arc a node whose time isn't known comes to one whose time is, after so long in all
pub record IsWay (m : Model) (times : List (Option ℕ)) (a d : ℕ) : Type 0 where
  pub arc_in : a < length m.arcs
  pub opened : IsTrue (is_open m a)
  pub from : time_at times (tail m a) ≡ None
  pub rest : ℕ
  pub to : time_at times (head m a) ≡ Some rest
  pub time : d ≡ (arc_at m a).travel + rest

-- no such way is shorter
pub record IsNearest (m : Model) (times : List (Option ℕ)) (a d : ℕ) : Type 0 where
  pub way : IsWay m times a d
  pub nearest : (b e : ℕ) → IsWay m times b e → d ≤ e

-- there is no such way
abbrev pub AllFound : Model → List (Option ℕ) → Type 0
AllFound m times = (a d : ℕ) → IsWay m times a d → ⊥
