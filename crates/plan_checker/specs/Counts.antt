-- People counted by node and moment, as a checker adds them up.
use Rattle.std.specs.Prelude.{◌≡◌, ℕ, ◌+◌, ◌^◌, ◌<◌, ◌≤◌, ◌&&◌, if◌then◌else◌, ◌==◌, List, length}
use Rattle.std.specs.List.{sum_by}
use Rattle.tables.specs.Tables.{TableView, item_at}
use Rattle.evac_law.specs.declared.model.Model.{Model}
use Rattle.evac_law.specs.declared.plan.Move.{Move}
use Rattle.evac_law.specs.Building.{IsValid, is_exit_at, capacity, head, arrival, entry}
use Rattle.evac_law.specs.Stands.{IsOrdered}
use Rattle.evac_law.specs.Sums.{moments_to}

-- a number for each node and each moment up to the last
abbrev pub Counts : Type 0
Counts = TableView ℕ

-- the number of a node at a moment
abbrev pub count : Counts → ℕ → ℕ → ℕ
count = item_at 0

-- the people of all moves
abbrev pub all_moved : List Move → ℕ
all_moved p = sum_by (λ v. v.people) p

-- the people who arrive at exits at a moment
abbrev pub arriving_at : Model → List Move → ℕ → ℕ
arriving_at m p t = sum_by (λ v. if is_exit_at m (head m v.arc) && arrival m v.arc v.moment == t then v.people else 0) p

-- by counts of who comes and who leaves: the people who came into a node by a moment, and who left it
abbrev pub came_by : Model → Counts → ℕ → ℕ → ℕ
came_by m came n t = sum_by (λ s. entry m n s + count came n s) (moments_to t)

abbrev pub left_by : Counts → ℕ → ℕ → ℕ
left_by left n t = sum_by (count left n) (moments_to t)

-- no more left the node by the moment than came, and what is left fits its capacity
abbrev pub IsCountedWell : Model → Counts → Counts → ℕ → ℕ → Type 0
IsCountedWell m came left n t = (left_by left n t ≤ came_by m came n t) × (came_by m came n t ≤ left_by left n t + capacity m n)

-- moves that can be counted: of a valid model, in order, and few enough
pub record AreCountable (m : Model) (p : List Move) : Type 0 where
  pub valid : IsValid m
  pub ordered : IsOrdered (length m.arcs) m.horizon p
  pub few : all_moved p < 2 ^ 62

-- what a count of such moves starts from: the number 0 for each node at each moment
pub record IsCountable (m : Model) (p : List Move) (c : Counts) : Type 0 where
  pub moves : AreCountable m p
  pub nodes : c.rows ≡ length m.nodes
  pub blank : (n t : ℕ) → count c n t ≡ 0

-- a table of the same size whose numbers are those of a function
pub record IsCountOf (f : ℕ → ℕ → ℕ) (c c' : Counts) : Type 0 where
  pub nodes : c'.rows ≡ c.rows
  pub last : c'.last ≡ c.last
  pub counts : (n t : ℕ) → n < c.rows → t ≤ c.last → count c' n t ≡ f n t

-- counts of who comes and who leaves that reach every node of a valid model at every moment before one
pub record AreTallies (m : Model) (came left : Counts) (until : ℕ) : Type 0 where
  pub valid : IsValid m
  pub came_nodes : came.rows ≡ length m.nodes
  pub left_nodes : left.rows ≡ length m.nodes
  pub came_until : until ≤ came.last + 1
  pub left_until : until ≤ left.last + 1
  pub until_in : until ≤ m.horizon + 1
