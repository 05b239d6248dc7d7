-- People by place and moment.
use Rattle.std.specs.Prelude.{◌≡◌, ℕ, ◌<◌, ◌≤◌}
use Rattle.tables.specs.Tables.{TableView, item_at}

-- a number for each row and each moment up to the last
abbrev pub PeopleTable : Type 0
PeopleTable = TableView ℕ

-- the people of a row at a moment; nobody past the last row or moment
abbrev pub people_at : PeopleTable → ℕ → ℕ → ℕ
people_at = item_at 0

-- the second table has these people in one row, and the rows before it are as in the first
pub record IsRowFilled (c d : PeopleTable) (n : ℕ) (people : ℕ → ℕ) : Type 0 where
  pub rows : d.rows ≡ c.rows
  pub last : d.last ≡ c.last
  pub row : (k : ℕ) → k ≤ c.last → people_at d n k ≡ people k
  pub others : (i k : ℕ) → i < n → people_at d i k ≡ people_at c i k
