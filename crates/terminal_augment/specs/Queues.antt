-- A queue in memory that is reserved once.
use Rattle.std.specs.Prelude.{ℕ, List}

-- the things, the last one first, and how many there is room for
pub record Queue (T : Type 0) : Type 0 where
  pub list : List T
  pub room : ℕ
