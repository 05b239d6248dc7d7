-- Sums of the first numbers of a list, as the list changes at one place.
use Rattle.std.proofs.Common.{◌≡◌, ℕ, ◌+◌, ◌-◌, ◌<◌, ◌≤◌, cond, leb, List, length, get_or, ap, arith, ◌∙◌, sum, take}
use Rattle.std.specs.List.{sum_by}
use Rattle.std.proofs.Math.ListN.{set}
use Rattle.std.proofs.Math.Seq.{take-set-lt}
use Rattle.std.proofs.lemmas.Bool.Decides.{nat_tests}
use Rattle.std.proofs.lemmas.List.{get_or-take, length-take, take-set-le}
use Rattle.std.proofs.lemmas.List.Sums.{sum_by-set, sum_by_more}
use Rattle.evac_law.specs.Sums.{below}
use Rattle.evac_law.proofs.SumLemmas.{sum_below-more}
use Rattle.cut_witness.specs.Changes.{Changes, IsRaised}

weigh : (i k s r y : ℕ) → (i < k + 1 → s ≡ r + y) → (k + 1 ≤ i → s ≡ r) → s ≡ r + cond (leb i k) y 0
weigh i k s r y before behind = grind (arith, nat_tests)

pub raised : (xs : List ℕ) (i y k : ℕ) → i < length xs
    → sum (take (k + 1) (set xs i (get_or xs i 0 + y))) ≡ sum (take (k + 1) xs) + cond (leb i k) y 0
raised xs i y k l = weigh i k (sum (take (k + 1) (set xs i (get_or xs i 0 + y)))) (sum (take (k + 1) xs)) y before behind
  where
    before : i < k + 1 → sum (take (k + 1) (set xs i (get_or xs i 0 + y))) ≡ sum (take (k + 1) xs) + y
    before h =
        let within : i < length (take (k + 1) xs) = omega (arith, length-take (k + 1) xs) in
        omega (
          arith,
          ap sum (take-set-lt (k + 1) xs i (get_or xs i 0 + y) h),
          sum_by-set (λ n. n) (take (k + 1) xs) i (get_or xs i 0 + y) 0 within,
          get_or-take (k + 1) xs i 0 h,
        )

    behind : k + 1 ≤ i → sum (take (k + 1) (set xs i (get_or xs i 0 + y))) ≡ sum (take (k + 1) xs)
    behind h = ap sum (take-set-le (k + 1) xs i (get_or xs i 0 + y) h)

-- one period more: what falls there is at most what stands with what rises there, and the difference is the number up to it
pub net_falls : (rises falls : List ℕ) (p n v : ℕ) → p < length rises → p < length falls
    → sum (take p rises) ≡ sum (take p falls) + n → sum (take (p + 1) rises) ≡ sum (take (p + 1) falls) + v
    → get_or falls p 0 ≤ n + get_or rises p 0
net_falls rises falls p n v l h e f = omega (arith, sum_by_more (λ x. x) rises p 0 l, sum_by_more (λ x. x) falls p 0 h)

pub net_more : (rises falls : List ℕ) (p n : ℕ) → p < length rises → p < length falls
    → sum (take p rises) ≡ sum (take p falls) + n → get_or falls p 0 ≤ n + get_or rises p 0
    → sum (take (p + 1) rises) ≡ sum (take (p + 1) falls) + (n + get_or rises p 0 - get_or falls p 0)
net_more rises falls p n l h e f = omega (arith, sum_by_more (λ x. x) rises p 0 l, sum_by_more (λ x. x) falls p 0 h)

-- ---- numbers that rise

-- by one number after another
pub raised_then : {f g : ℕ → ℕ} {m n : ℕ} {a b c : Changes} → IsRaised f m a b → IsRaised g n b c → IsRaised (λ k. f k + g k) (m + n) a c
raised_then {f} {g} first second = record {
  periods = second.periods ∙ first.periods;
  net = λ k v l h. omega (arith, second.net k (v + f k) (omega (arith, l, first.periods)) (first.net k v l h));
  bounded = omega (arith, first.bounded, second.bounded);
}

-- by the same numbers, said otherwise
pub raised_as : {f : ℕ → ℕ} (g : ℕ → ℕ) {m : ℕ} (n : ℕ) {a b : Changes} → ((k : ℕ) → k < length a.rises → f k ≡ g k) → m ≤ n → IsRaised f m a b → IsRaised g n a b
raised_as g n same few raised = record {
  periods = raised.periods;
  net = λ k v l h. omega (arith, raised.net k v l h, same k l);
  bounded = omega (arith, raised.bounded, few);
}

-- in a loop: by the first terms of sums, and by all of them at its end
pub raised_step : (f : ℕ → ℕ → ℕ) (i one n : ℕ) {m : ℕ} {a b c : Changes} → IsRaised (λ k. sum_by (f k) (below i)) m a b → IsRaised (λ k. f k i) one b c → m + one ≤ n
    → IsRaised (λ k. sum_by (f k) (below (i + 1))) n a c
raised_step f i one n first second few =
    raised_as (λ k. sum_by (f k) (below (i + 1))) n (λ k l. omega (arith, sum_below-more (f k) i)) few (raised_then first second)

pub raised_end : (f : ℕ → ℕ → ℕ) (i n most : ℕ) {m : ℕ} {a b : Changes} → i ≤ n → n ≤ i → m ≤ most → IsRaised (λ k. sum_by (f k) (below i)) m a b
    → IsRaised (λ k. sum_by (f k) (below n)) most a b
raised_end f i n most l h few raised =
    let same : i ≡ n = omega arith in raised_as (λ k. sum_by (f k) (below n)) most (λ k _. ap (λ j. sum_by (f k) (below j)) same) few raised
