-- A greedy choice of exits.
use Rattle.std.proofs.Common.{◌≡◌, ℕ, zero, suc, ◌+◌, ◌-◌, ◌*◌, ◌^◌, ◌≤◌, Bool, true, false, ◌||◌, eqb, List, [], ◌∷◌, ◌++◌, length, refl, ap, arith}
use Rattle.std.proofs.Math.Nat.{mul-add, mul-le-mul_left, mul-zero, mul_assoc, mul_left_comm, pow-suc, pow-zero, suc-mul, zero-mul}
use Rattle.std.proofs.lemmas.Bool.{both_ways}
use Rattle.evac_law.specs.declared.model.Model.{Model}
use Rattle.evac_law.specs.declared.plan.Move.{Move}
use Rattle.evac_law.specs.Cuts.{Cut}
use Rattle.evac_law.specs.Plans.{out_by}
use Rattle.evac_law.proofs.WeakDuality.{out_le_value}
use Rattle.building_laws.specs.Doors.{GreedyExitsAreGood, HaveChoices, is_among}
use Rattle.building_laws.proofs.Duality.{cut_of}
use Rattle.building_laws.proofs.Doors.{in_rest, join, kept_grows, kept_is, kept_meet_join, kept_value, meet}

within : (os es : List ℕ) (n : ℕ) → is_among es n ≡ true → is_among (os ++ es) n ≡ true
within [] es n h = h
within (o ∷ os) es n h = in_rest o n (os ++ es) (within os es n h)

begins : (os es : List ℕ) (n : ℕ) → is_among os n ≡ true → is_among (os ++ es) n ≡ true
begins [] es n h = absurd (both_ways false refl h)
begins (o ∷ os) es n h = go (eqb o n) (is_among os n) (is_among (os ++ es) n) h (begins os es n)
  where
    go : (b c d : Bool) → (b || c) ≡ true → (c ≡ true → d ≡ true) → (b || d) ≡ true
    go b c d h i = grind arith

module _ (m : Model) (only : List ℕ → Model) (plan : List ℕ → List Move) (k : ℕ) (l : k ≤ m.horizon) (choices : HaveChoices m only plan k) where
  abbrev most : List ℕ → ℕ
  most es = out_by (only es) (plan es) k

  cut_with : (es : List ℕ) → (x : Cut) × (kept_value m (is_among es) x k ≤ most es)
  cut_with es =
      let x = cut_of (only es) (plan es) k (choices.valid es) (omega (arith, l, (choices.opens es).at_doors.horizon)) (choices.best es) in
      (x.0, omega (arith, x.1, kept_is m (only es) (is_among es) x.0 k (choices.opens es) l))

  bounded : (es : List ℕ) (x : Cut) → most es ≤ kept_value m (is_among es) x k
  bounded es x =
      omega (arith, out_le_value (only es) x (plan es) k (choices.valid es) (choices.best es).feasible, kept_is m (only es) (is_among es) x k (choices.opens es) l)

  more_help : (es fs : List ℕ) → ((n : ℕ) → is_among es n ≡ true → is_among fs n ≡ true) → most es ≤ most fs
  more_help es fs h =
      let x = cut_with fs in
      omega (arith, x.1, bounded es x.0, kept_grows m (is_among es) (is_among fs) x.0 k h)

  -- an exit brings no more beside others
  help_less : (o : ℕ) (es fs : List ℕ) → ((n : ℕ) → is_among es n ≡ true → is_among fs n ≡ true) → most (o ∷ fs) + most es ≤ most (o ∷ es) + most fs
  help_less o es fs h =
      let x = cut_with (o ∷ es) in
      let y = cut_with fs in
      omega (
        arith,
        x.1,
        y.1,
        bounded (o ∷ fs) (meet x.0 y.0),
        bounded es (join x.0 y.0),
        kept_meet_join m (is_among (o ∷ fs)) (is_among (o ∷ es)) (is_among fs) (is_among es) x.0 y.0 k
            (record {
              in_one = λ n i. either (eqb o n) (is_among es n) (is_among fs n) i;
              one_more = λ n i. in_rest o n es i;
              other_more = h;
            }),
      )
    where
      either : (b c d : Bool) → (b || d) ≡ true → ((b || c) || d) ≡ true
      either b c d i = grind arith

  one_step : (n a b c d e f : ℕ) → a + b ≤ c + d → c ≤ e → d + n * b ≤ f + n * e → a + suc n * b ≤ f + suc n * e
  one_step n a b c d e f h i j = omega (arith, h, i, j, suc-mul n b, suc-mul n e)

  -- what any exits bring beside those that were chosen is at most what the next one brings, as often as there are of them
  beside : (e : ℕ) (os es : List ℕ) → ((o : ℕ) → most (o ∷ es) ≤ most (e ∷ es)) → most (os ++ es) + length os * most es ≤ most es + length os * most (e ∷ es)
  beside e [] es greedy = omega arith
  beside e (o ∷ os) es greedy =
      one_step (length os) (most (o ∷ (os ++ es))) (most es) (most (o ∷ es)) (most (os ++ es)) (most (e ∷ es)) (most es)
      (help_less o es (os ++ es) (within os es)) (greedy o) (beside e os es greedy)

  next_chosen : (e : ℕ) (os es : List ℕ) → ((o : ℕ) → most (o ∷ es) ≤ most (e ∷ es)) → most os + length os * most es ≤ most es + length os * most (e ∷ es)
  next_chosen e os es greedy = omega (arith, beside e os es greedy, more_help os (os ++ es) (begins os es))

-- with a factor more: what is lacking of the best shrinks by its n-th part
shrinks : (n power less best now then : ℕ) → best + n * now ≤ now + n * then → power * best ≤ power * now + less * best
    → power * n * best ≤ power * n * then + less * (n - 1) * best
shrinks zero power less best now then h i = omega (arith, mul-zero power, ap (λ z. z * best) (mul-zero power), zero-mul best)
shrinks (suc c) power less best now then h i =
    let step : best + c * now ≤ suc c * then = omega (arith, h, suc-mul c now, suc-mul c then) in
    let before : suc c - 1 ≡ c = omega arith in
    let one : power * best + power * (c * now) ≤ power * (suc c * then) =
    omega (arith, mul-le-mul_left power step, mul-add power best (c * now)) in
    let rest : c * (power * best) ≤ c * (power * now) + c * (less * best) =
    omega (arith, mul-le-mul_left c i, mul-add c (power * now) (less * best)) in
    omega (
      arith,
      one,
      rest,
      mul_assoc power (suc c) best,
      ap (λ z. power * z) (suc-mul c best),
      mul-add power (c * best) best,
      mul_left_comm power c best,
      mul_assoc power (suc c) then,
      mul_left_comm power c now,
      ap (λ z. less * z * best) before,
      mul_assoc less c best,
      mul_left_comm less c best,
    )

pub greedy_exits_are_good : GreedyExitsAreGood
greedy_exits_are_good m only plan k l choices [] others greedy =
    omega (
      arith,
      ap (λ z. z * out_by (only others) (plan others) k) (pow-zero (length others - 1)),
      ap (λ z. z * out_by (only others) (plan others) k) (pow-zero (length others)),
    )
greedy_exits_are_good m only plan k l choices (e ∷ es) others greedy =
    let best = out_by (only others) (plan others) k in
    let n = length others in
    let i = length es in
    let next = next_chosen m only plan k l choices e others es greedy.0 in
    let before = greedy_exits_are_good m only plan k l choices es others greedy.1 in
    let shrunk = shrinks n (n ^ i) ((n - 1) ^ i) best (out_by (only es) (plan es) k) (out_by (only (e ∷ es)) (plan (e ∷ es)) k) next before in
    rw (pow-suc n i) (rw (pow-suc (n - 1) i) shrunk)
