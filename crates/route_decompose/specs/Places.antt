-- The places at which somebody is, and a place with fewer people.
use Rattle.std.specs.Prelude.{◌≡◌, ℕ, ◌+◌, ◌&&◌, if◌then◌else◌, ◌==◌}
use Rattle.std.specs.List.{sum_by}
use Rattle.evac_law.specs.Sums.{below, moments_to}
use Rattle.plan_layout.specs.Tables.{PeopleTable, people_at}

-- in how many of some rows at the moments up to a last one somebody is
unfoldable pub places_with : ℕ → ℕ → (ℕ → ℕ → ℕ) → ℕ
places_with rows last people = sum_by (λ i. sum_by (λ k. if people i k == 0 then 0 else 1) (moments_to last)) (below rows)

-- in how many places of a table somebody is
abbrev pub places_in : PeopleTable → ℕ
places_in c = places_with c.rows c.last (people_at c)

-- the second table has fewer people in one place than the first, and the same elsewhere
pub record IsLess (c d : PeopleTable) (n t p : ℕ) : Type 0 where
  pub rows : d.rows ≡ c.rows
  pub last : d.last ≡ c.last
  pub cells : (i k : ℕ) → people_at d i k + (if n == i && t == k then p else 0) ≡ people_at c i k
