-- A table that is filled moment by moment and row by row.
use Rattle.std.proofs.Common.{◌≡◌, ℕ, ◌+◌, ◌<◌, cond, ◌&&◌, eqb, ◌∙◌, arith}
use borrow.Author.Count.{below_more}
use Rattle.std.proofs.lemmas.Bool.Decides.{nat_tests}
use Rattle.tables.specs.Tables.{IsPut}
use Rattle.plan_layout.specs.Tables.{PeopleTable, people_at}

-- ---- a row, moment by moment

-- a row of the second table has these numbers before a moment, and the rows before it are as in the first
pub record IsFilling (c d : PeopleTable) (n t : ℕ) (f : ℕ → ℕ) : Type 0 where
  pub rows : d.rows ≡ c.rows
  pub last : d.last ≡ c.last
  pub row : (k : ℕ) → k < t → people_at d n k ≡ f k
  pub others : (i k : ℕ) → i < n → people_at d i k ≡ people_at c i k

here : (n t x y : ℕ) → cond (eqb n n && eqb t t) x y ≡ x
here n t x y = grind (arith, nat_tests)

elsewhere : (n i t k x y : ℕ) → (n ≡ i → t ≡ k → ⊥) → cond (eqb n i && eqb t k) x y ≡ y
elsewhere n i t k x y h = grind (arith, nat_tests)

pub one_filled : (c d e : PeopleTable) (n t x : ℕ) (f : ℕ → ℕ) → IsFilling c d n t f → IsPut d e n t x → x ≡ f t → IsFilling c e n (t + 1) f
one_filled c d e n t x f h put same = record {
  rows = put.rows ∙ h.rows;
  last = put.last ∙ h.last;
  row = below_more (λ k. people_at e n k ≡ f k) t
      (λ k b. put.items 0 n k ∙ elsewhere n n t k x (people_at d n k) (λ a c. omega (arith, c, b)) ∙ h.row k b)
      (put.items 0 n t ∙ here n t x (people_at d n t) ∙ same);
  others = λ i k l. put.items 0 i k ∙ elsewhere n i t k x (people_at d i k) (λ a b. omega (arith, a, l)) ∙ h.others i k l;
}

-- ---- a table, row by row
