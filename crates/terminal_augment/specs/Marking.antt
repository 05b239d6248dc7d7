-- Marks on nodes at moments, all taken off at once by a new stamp.
use Rattle.std.specs.Prelude.{◌≡◌, ℕ, ◌+◌, ◌*◌, ◌<◌, ◌≤◌, ◌^◌, Bool, ◌==◌, List, length, slice_index, slice_set}
use Rattle.std.specs.List.{All}

-- marks as contracts see them: the number of nodes, the horizon, the stamp of a mark that counts, and a stamp for each node and moment
pub record MarkTable : Type 0 where
  pub nodes : ℕ
  pub horizon : ℕ
  pub stamp : ℕ
  pub list : List ℕ

-- there is a stamp for each node and moment, and none is later than that of a mark that counts
pub record IsMarks (m : MarkTable) : Type 0 where
  pub full : length m.list ≡ m.nodes * (m.horizon + 1)
  pub some : 1 ≤ m.stamp
  pub fits : m.stamp < 2 ^ 16
  pub old : All (λ x. x ≤ m.stamp) m.list

-- the place of a node and moment in the list
abbrev pub mark_place : MarkTable → ℕ → ℕ → ℕ
mark_place m n t = n * (m.horizon + 1) + t

-- whether a node is marked at a moment
abbrev pub is_marked : MarkTable → ℕ → ℕ → Bool
is_marked m n t = slice_index m.list (mark_place m n t) == m.stamp

-- the marks with another stamp for a node and moment
abbrev pub with_stamp : MarkTable → ℕ → ℕ → ℕ → MarkTable
with_stamp m n t stamp = record m { list = slice_set m.list (mark_place m n t) stamp }
