-- The cells are one to one and below their number.
use Rattle.std.proofs.Common.{ℕ, ◌+◌, ◌*◌, ◌<◌, ◌≤◌, length, arith}
use Rattle.std.proofs.Math.Nat.{mul_comm}
use Rattle.std.proofs.lemmas.Nat.{same_from_place, mul-add-lt}
use Rattle.time_expansion.specs.Limits.{node_limit, arc_limit, horizon_limit, cell_limit}
use Rattle.time_expansion.specs.declared.limits.TheConstants.{NODE_LIMIT, ARC_LIMIT, HORIZON_LIMIT, CELL_LIMIT}
use Rattle.time_expansion.specs.Expansion.{Expansion, IsExpansion, CellsAreApart, arc_cell, hold_cell, cells}

pub row_cell_below : (x : Expansion) (r t : ℕ) → r < x.nodes + length x.ends → t ≤ x.horizon → r * (x.horizon + 1) + t < cells x
unfolding cells
row_cell_below x r t i j =
    let e = mul-add-lt r (x.horizon + 1) t (x.nodes + length x.ends) i (omega arith) in
    omega (arith, e, mul_comm (x.horizon + 1) (x.nodes + length x.ends))

pub arc_cell_below : (x : Expansion) (a t : ℕ) → a < length x.ends → t ≤ x.horizon → arc_cell x a t < cells x
unfolding arc_cell
arc_cell_below x a t i j = row_cell_below x a t (omega arith) j

pub hold_cell_below : (x : Expansion) (n t : ℕ) → n < x.nodes → t ≤ x.horizon → hold_cell x n t < cells x
unfolding hold_cell
hold_cell_below x n t i j = row_cell_below x (length x.ends + n) t (omega arith) j

pub cells_are_apart : CellsAreApart
unfolding arc_cell hold_cell
cells_are_apart = record {
  arcs_below = arc_cell_below;
  holds_below = hold_cell_below;
  arcs = λ x a b t s i j e. same_from_place a t b s (x.horizon + 1) (omega arith) (omega arith) e;
  holds = λ x n m t s i j e.
      let both = same_from_place (length x.ends + n) t (length x.ends + m) s (x.horizon + 1) (omega arith) (omega arith) e in
      (omega (arith, both.0), both.1);
  arc_hold = λ x a n t s l i j e.
      let both = same_from_place a t (length x.ends + n) s (x.horizon + 1) (omega arith) (omega arith) e in
      omega (arith, both.0, l);
}

-- the sizes keep the limits as numbers
pub record Sizes (x : Expansion) : Type 0 where
  pub nodes : x.nodes ≤ NODE_LIMIT
  pub arcs : length x.ends ≤ ARC_LIMIT
  pub horizon : x.horizon ≤ HORIZON_LIMIT
  pub cells : cells x ≤ CELL_LIMIT

pub sizes : (x : Expansion) → IsExpansion x → Sizes x
unfolding node_limit arc_limit horizon_limit cell_limit
sizes x h = record { nodes = h.nodes_fit; arcs = h.arcs_fit; horizon = h.horizon_fits; cells = h.cells_fit }
