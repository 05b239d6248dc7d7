-- Tables: an item for each row and each moment up to the last.
use Rattle.std.specs.Prelude.{◌≡◌, ℕ, ◌+◌, ◌*◌, ◌&&◌, if◌then◌else◌, ◌==◌, nat_le, nat_lt, List, length, slice_index_or}

-- a table as contracts see it: the number of its rows, the last moment, and the items row by row
pub record TableView (T : Type 0) : Type 0 where
  pub rows : ℕ
  pub last : ℕ
  pub items : List T

-- there is an item for each row and each moment
abbrev pub IsFull : {T : Type 0} → TableView T → Type 0
IsFull c = length c.items ≡ c.rows * (c.last + 1)

-- the item of a row at a moment; another one past the last row or moment
unfoldable pub item_at : {T : Type 0} → T → TableView T → ℕ → ℕ → T
item_at d c n t = if nat_lt n c.rows && nat_le t c.last then slice_index_or c.items (n * (c.last + 1) + t) d else d

-- the second table has another item in one place than the first
pub record IsPut {T : Type 0} (c d : TableView T) (n t : ℕ) (x : T) : Type 0 where
  pub rows : d.rows ≡ c.rows
  pub last : d.last ≡ c.last
  pub items : (e : T) (i k : ℕ) → item_at e d i k ≡ (if n == i && t == k then x else item_at e c i k)
