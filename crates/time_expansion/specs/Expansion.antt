-- The time-expanded network: a cell for each arc and each node at each moment, and the arcs at a node.
use Rattle.std.specs.Prelude.{◌≡◌, ◌≢◌, ℕ, ◌+◌, ◌*◌, ◌<◌, ◌≤◌, ◌==◌, List, length, slice_index_or}
use Rattle.std.specs.List.{All, filter, range_with_len}
use Rattle.time_expansion.specs.declared.ends.Ends.{Ends}
use Rattle.time_expansion.specs.Limits.{node_limit, arc_limit, horizon_limit, cell_limit}

-- a network as contracts see it: the number of its nodes, the ends of its arcs, and the last moment
pub record Expansion : Type 0 where
  pub nodes : ℕ
  pub ends : List Ends
  pub horizon : ℕ

-- the number of the cells
unfoldable pub cells : Expansion → ℕ
cells x = (x.nodes + length x.ends) * (x.horizon + 1)

-- the cell of an arc at a moment
unfoldable pub arc_cell : Expansion → ℕ → ℕ → ℕ
arc_cell x a t = a * (x.horizon + 1) + t

-- the cell of a node at a moment, after those of the arcs
unfoldable pub hold_cell : Expansion → ℕ → ℕ → ℕ
hold_cell x n t = (length x.ends + n) * (x.horizon + 1) + t

-- the ends are nodes, and the sizes keep the limits
pub record IsExpansion (x : Expansion) : Type 0 where
  pub ends_in : All (λ e. (e.from < x.nodes) × (e.to < x.nodes)) x.ends
  pub nodes_fit : x.nodes ≤ node_limit
  pub arcs_fit : length x.ends ≤ arc_limit
  pub horizon_fits : x.horizon ≤ horizon_limit
  pub cells_fit : cells x ≤ cell_limit

-- what stands past the end of the list of arcs
abbrev pub no_ends : Ends
no_ends = record { from = 0; to = 0 }

-- the node that an arc leaves
abbrev pub from_at : Expansion → ℕ → ℕ
from_at x a = (slice_index_or x.ends a no_ends).from

-- the node that an arc enters
abbrev pub to_at : Expansion → ℕ → ℕ
to_at x a = (slice_index_or x.ends a no_ends).to

-- the arcs that leave a node, in file order
unfoldable pub arcs_from : Expansion → ℕ → List ℕ
arcs_from x n = filter (λ a. from_at x a == n) (range_with_len 0 (length x.ends))

-- the arcs that enter a node, in file order
unfoldable pub arcs_to : Expansion → ℕ → List ℕ
arcs_to x n = filter (λ a. to_at x a == n) (range_with_len 0 (length x.ends))

-- the cells are one to one and below their number
pub record CellsAreApart : Type 0 where
  pub arcs_below : (x : Expansion) (a t : ℕ) → a < length x.ends → t ≤ x.horizon → arc_cell x a t < cells x
  pub holds_below : (x : Expansion) (n t : ℕ) → n < x.nodes → t ≤ x.horizon → hold_cell x n t < cells x
  pub arcs : (x : Expansion) (a b t s : ℕ) → t ≤ x.horizon → s ≤ x.horizon → arc_cell x a t ≡ arc_cell x b s → (a ≡ b) × (t ≡ s)
  pub holds : (x : Expansion) (n m t s : ℕ) → t ≤ x.horizon → s ≤ x.horizon → hold_cell x n t ≡ hold_cell x m s → (n ≡ m) × (t ≡ s)
  pub arc_hold : (x : Expansion) (a n t s : ℕ) → a < length x.ends → t ≤ x.horizon → s ≤ x.horizon → arc_cell x a t ≢ hold_cell x n s
