-- Sums of ones: how many of some numbers pass a test.
use Rattle.std.proofs.Common.{◌≡◌, ℕ, zero, suc, ◌+◌, ◌<◌, ◌≤◌, Bool, true, cond, ◌&&◌, eqb, leb, ltb, ap, sym, ◌∙◌, arith}
use Rattle.std.specs.List.{sum_by}
use Rattle.std.proofs.lemmas.Bool.{eq-eqb, eqb-true, lt-ltb}
use Rattle.std.proofs.lemmas.Bool.Decides.{nat_tests}
use Rattle.evac_law.specs.Sums.{below}
use Rattle.evac_law.proofs.SumLemmas.{All-below, sum_below-none, sum_below-pick, sum_below-suc, sum_by-exchange, sum_by-same_all}

-- one, where a test holds
abbrev pub one_if : Bool → ℕ
one_if b = cond b 1 0

pub none_count : (b : Bool) → (b ≡ true → ⊥) → one_if b ≡ 0
none_count b h = grind arith

-- two tests that hold alike
pub same_count : (b c : Bool) → (b ≡ true → c ≡ true) → (c ≡ true → b ≡ true) → one_if b ≡ one_if c
same_count b c f g = grind arith

count_step : (b : Bool) (i l w : ℕ)
    → cond (b && (leb l i && ltb i (l + w))) 1 0 + cond (b && eqb i (l + w)) 1 0 ≡ cond (b && (leb l i && ltb i (l + suc w))) 1 0
count_step b i l w = grind (arith, nat_tests)

none_between : (b : Bool) (i l : ℕ) → 0 ≡ one_if (b && (leb l i && ltb i (l + 0)))
none_between b i l = grind (arith, nat_tests)

-- the numbers from l on: one of them is i, where i is among them
pub count_between : (b : Bool) (i l w : ℕ) → sum_by (λ o. cond (b && eqb i (l + o)) 1 0) (below w) ≡ cond (b && (leb l i && ltb i (l + w))) 1 0
count_between b i l zero = sum_below-none (λ o. cond (b && eqb i (l + o)) 1 0) ∙ none_between b i l
count_between b i l (suc w) =
    sum_below-suc (λ o. cond (b && eqb i (l + o)) 1 0) w
    ∙ ap (λ z. z + cond (b && eqb i (l + w)) 1 0) (count_between b i l w)
    ∙ count_step b i l w

pub ones : (n : ℕ) → sum_by (λ (_ : ℕ). 1) (below n) ≡ n
ones zero = sum_below-none (λ _. 1)
ones (suc n) = omega (arith, sum_below-suc (λ _. 1) n, ones n)

-- the numbers from l on, of all below n
pub all_between : (l w n : ℕ) → l + w ≤ n → sum_by (λ k. one_if (leb l k && ltb k (l + w))) (below n) ≡ w
all_between l w n h =
    sum_by-same_all (λ k. one_if (leb l k && ltb k (l + w))) (λ k. sum_by (λ o. one_if (eqb k (l + o))) (below w)) (below n)
    (All-below _ n (λ k i. sym (count_between true k l w)))
    ∙ sum_by-exchange (λ k o. one_if (eqb k (l + o))) (below n) (below w)
    ∙ sum_by-same_all (λ o. sum_by (λ k. one_if (eqb k (l + o))) (below n)) (λ _. 1) (below w)
    (All-below _ w (λ o i. one_of (l + o) (omega (arith, h, i))))
    ∙ ones w
  where
    turned : (x y : ℕ) → one_if (eqb x y) ≡ one_if (eqb y x)
    turned x y = same_count (eqb x y) (eqb y x) (λ e. eq-eqb y x (sym (eqb-true x y e))) (λ e. eq-eqb x y (sym (eqb-true y x e)))

    one_of : (x : ℕ) → x < n → sum_by (λ k. one_if (eqb k x)) (below n) ≡ 1
    one_of x i =
        sum_by-same_all (λ k. one_if (eqb k x)) (λ k. one_if (eqb x k)) (below n) (All-below _ n (λ k b. turned k x))
        ∙ sum_below-pick (λ _. 1) n x
        ∙ ap one_if (lt-ltb x n i)
