-- Tables of sums: one place with another number.
use Rattle.std.proofs.Common.{◌≡◌, ℕ, ◌^◌, ◌<◌, Bool, true, false, cond, ◌&&◌, eqb, arith}
use Rattle.tables.specs.Tables.{IsPut}
use Rattle.plan_layout.specs.Tables.{PeopleTable, people_at}
use Rattle.cards.specs.Kept.{IsSumTable}

small_one : (b : Bool) (x y z : ℕ) → z ≡ cond b x y → x < 2 ^ 62 → y < 2 ^ 62 → z < 2 ^ 62
small_one true x y z e l h = omega (arith, e, l)
small_one false x y z e l h = omega (arith, e, h)

pub put_sum : (c d : PeopleTable) (n t x : ℕ) → IsSumTable c → IsPut c d n t x → x < 2 ^ 62 → IsSumTable d
put_sum c d n t x h put l i k = small_one (eqb n i && eqb t k) x (people_at c i k) (people_at d i k) (put.items 0 i k) l (h i k)
