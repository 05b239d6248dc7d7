-- Numbers for periods, kept as what they rise and fall by at each period.
use Rattle.std.specs.Prelude.{◌≡◌, ℕ, ◌+◌, ◌<◌, ◌≤◌, Bool, ◌&&◌, nat_le, nat_lt, List, length, sum, take}
use Rattle.cut_witness.specs.declared.span.Span.{Span}

-- what is added at each period, and what is taken off
pub record Changes : Type 0 where
  pub rises : List ℕ
  pub falls : List ℕ

-- as many periods rise as fall
abbrev pub IsChanges : Changes → Type 0
IsChanges c = length c.falls ≡ length c.rises

-- what rises up to period k is what falls up to then and v more
abbrev pub IsBalance : Changes → ℕ → ℕ → Type 0
IsBalance c k v = sum (take (k + 1) c.rises) ≡ sum (take (k + 1) c.falls) + v

-- all that rises and falls
abbrev pub turnover : Changes → ℕ
turnover c = sum c.rises + sum c.falls

-- whether a period is one of a span
abbrev pub in_span : Span → ℕ → Bool
in_span s k = nat_le s.from k && nat_lt k s.to

-- the number of each period rises by that of a function, by changes of at most so many people in all
pub record IsRaised (f : ℕ → ℕ) (most : ℕ) (c c' : Changes) : Type 0 where
  pub periods : length c'.rises ≡ length c.rises
  pub net : (k v : ℕ) → k < length c.rises → IsBalance c k v → IsBalance c' k (v + f k)
  pub bounded : turnover c' ≤ turnover c + most
