-- Several exits lost: a cut for each of them lost alone gives one for all.
use Rattle.std.proofs.Common.{◌≡◌, ℕ, suc, ◌+◌, ◌-◌, ◌*◌, ◌≤◌, Bool, true, false, not, ◌||◌, eqb, List, [], ◌∷◌, length, refl, ap, sym, ◌∙◌, arith, inl, inr}
use Rattle.std.specs.List.{AllByRecursion, IsDistinct, sum_by}
use Rattle.std.proofs.Math.Nat.{suc-mul}
use Rattle.std.proofs.lemmas.Bool.{both_ways, cases_Bool, eq-eqb, eqb-true}
use Rattle.std.proofs.lemmas.List.Sums.{sum_by-cons}
use Rattle.evac_law.specs.declared.model.Model.{Model}
use Rattle.evac_law.specs.declared.plan.Move.{Move}
use Rattle.evac_law.specs.Building.{IsValid}
use Rattle.evac_law.specs.Cuts.{Cut, cut_value}
use Rattle.evac_law.specs.Plans.{IsFeasible, out_by}
use Rattle.evac_law.proofs.WeakDuality.{out_le_value}
use Rattle.building_laws.specs.Doors.{KeepsOpen, SeveralExitsCostMost, is_among}
use Rattle.building_laws.specs.Duality.{IsBestAt}
use Rattle.building_laws.proofs.Duality.{cut_of}
use Rattle.building_laws.proofs.Doors.{all_kept, in_rest, join, kept_grows, kept_is, kept_meet_join, kept_value, meet}

at_head : (e n : ℕ) (es : List ℕ) → is_among (e ∷ es) n ≡ (eqb e n || is_among es n)
at_head e n es = refl

-- who is apart from the first isn't it
apart : (e n : ℕ) (es : List ℕ) → IsDistinct eqb (e ∷ es) → is_among es n ≡ true → eqb e n ≡ false
unfolding IsDistinct
apart e n es d h = go es d.0 h
  where
    go : (fs : List ℕ) → AllByRecursion (λ f. eqb e f ≡ false) fs → is_among fs n ≡ true → eqb e n ≡ false
    go [] all h = absurd (both_ways false refl h)
    go (f ∷ fs) all h = elim (cases_Bool (eqb f n)) [
      | inl same ↦ ap (eqb e) (sym (eqb-true f n same)) ∙ all.0
      | inr other ↦ go fs all.1 (ap (λ b. b || is_among fs n) (sym other) ∙ h)
    ]

distinct_rest : (e : ℕ) (es : List ℕ) → IsDistinct eqb (e ∷ es) → IsDistinct eqb es
unfolding IsDistinct
distinct_rest e es d = d.1

not_first : (b c : Bool) → not (b || c) ≡ true → not b ≡ true
not_first b c h = grind arith

not_rest : (b c : Bool) → not (b || c) ≡ true → not c ≡ true
not_rest b c h = grind arith

not_both : (b c : Bool) → (c ≡ true → b ≡ false) → (not b || not c) ≡ true
not_both b c h = grind arith

module _ (m : Model) (k : ℕ) (cut : ℕ → Cut) (most : ℕ) (bound : (x : Cut) → most ≤ kept_value m (λ _. true) x k) where
  -- what the cuts are worth of each exit lost alone
  abbrev alone : List ℕ → ℕ
  alone es = sum_by (λ e. kept_value m (λ n. not (eqb e n)) (cut e) k) es

  -- one exit more: the pairs of its cut or of that of the rest are a cut of all of them, and the pairs of both bound the building
  one_more_lost : (e : ℕ) (es : List ℕ) (x : Cut) → IsDistinct eqb (e ∷ es)
      → most + kept_value m (λ n. not (is_among (e ∷ es) n)) (join (cut e) x) k
      ≤ kept_value m (λ n. not (eqb e n)) (cut e) k + kept_value m (λ n. not (is_among es n)) x k
  one_more_lost e es x d =
      omega (
        arith,
        bound (meet (cut e) x),
        kept_meet_join m (λ _. true) (λ n. not (eqb e n)) (λ n. not (is_among es n)) (λ n. not (is_among (e ∷ es) n)) (cut e) x k
            (record {
              in_one = λ n _. not_both (eqb e n) (is_among es n) (apart e n es d);
              one_more = λ n h. not_first (eqb e n) (is_among es n) h;
              other_more = λ n h. not_rest (eqb e n) (is_among es n) h;
            }),
      )

  only_one_lost : (e : ℕ) → kept_value m (λ n. not (is_among (e ∷ []) n)) (cut e) k ≤ kept_value m (λ n. not (eqb e n)) (cut e) k
  only_one_lost e = kept_grows m (λ n. not (is_among (e ∷ []) n)) (λ n. not (eqb e n)) (cut e) k (λ n h. not_first (eqb e n) false h)

  add_up : (n most one all rest sum : ℕ) → most + all ≤ one + rest → n * most + rest ≤ sum → suc n * most + all ≤ one + sum
  add_up n most one all rest sum h i = omega (arith, h, i, suc-mul n most)

  -- so it is with several
  several : (e : ℕ) (es : List ℕ) → IsDistinct eqb (e ∷ es)
      → (x : Cut) × (length es * most + kept_value m (λ n. not (is_among (e ∷ es) n)) x k ≤ alone (e ∷ es))
  several e [] d = (cut e, omega (arith, only_one_lost e))
  several e (f ∷ fs) d =
      let rest = several f fs (distinct_rest e (f ∷ fs) d) in
      let sum = add_up (length fs) most (kept_value m (λ n. not (eqb e n)) (cut e) k) (kept_value m (λ n. not (is_among (e ∷ f ∷ fs) n)) (join (cut e) rest.0) k)
      (kept_value m (λ n. not (is_among (f ∷ fs) n)) rest.0 k) (alone (f ∷ fs)) (one_more_lost e (f ∷ fs) rest.0 d) rest.1 in
      (join (cut e) rest.0, rw (sum_by-cons (λ g. kept_value m (λ n. not (eqb g n)) (cut g) k) e (f ∷ fs)) sum)

-- ---- sums over lists of exits

is_first : (e : ℕ) (es : List ℕ) → is_among (e ∷ es) e ≡ true
is_first e es = ap (λ b. b || is_among es e) (eq-eqb e e refl)

sum_le : (f g : ℕ → ℕ) (es : List ℕ) → ((e : ℕ) → is_among es e ≡ true → f e ≤ g e) → sum_by f es ≤ sum_by g es
sum_le f g [] h = omega arith
sum_le f g (e ∷ es) h =
    omega (
      arith,
      sum_by-cons f e es,
      sum_by-cons g e es,
      h e (is_first e es),
      sum_le f g es (λ i s. h i (in_rest e i es s)),
    )

-- what terms lack of a number, and the terms
sum_lacks : (most : ℕ) (f : ℕ → ℕ) (es : List ℕ) → ((e : ℕ) → is_among es e ≡ true → f e ≤ most)
    → sum_by (λ e. most - f e) es + sum_by f es ≡ length es * most
sum_lacks most f [] h = omega arith
sum_lacks most f (e ∷ es) h =
    omega (
      arith,
      sum_by-cons f e es,
      sum_by-cons (λ i. most - f i) e es,
      h e (is_first e es),
      sum_lacks most f es (λ i s. h i (in_rest e i es s)),
      suc-mul (length es) most,
    )

module _ (m none : Model) (without : ℕ → Model) (lost : List ℕ) (valid : IsValid m) (valid_none : IsValid none)
    (all_lost : KeepsOpen m none (λ n. not (is_among lost n)))
    (each : (e : ℕ) → is_among lost e ≡ true → IsValid (without e) × KeepsOpen m (without e) (λ n. not (eqb e n)))
    (p q : List Move) (plan : ℕ → List Move) (k : ℕ) (l : k ≤ m.horizon) (best : IsBestAt m p k) (feasible : IsFeasible none q k)
    (best_each : (e : ℕ) → is_among lost e ≡ true → IsBestAt (without e) (plan e) k) where
  abbrev out_without : ℕ → ℕ
  out_without e = out_by (without e) (plan e) k

  -- a cut of the building without an exit
  cut_without : (e : ℕ) → (x : Cut) × (is_among lost e ≡ true → cut_value (without e) x k ≤ out_without e)
  cut_without e = elim (cases_Bool (is_among lost e)) [
    | inl h ↦
        let x = cut_of (without e) (plan e) k (each e h).0 (omega (arith, l, (each e h).1.at_doors.horizon)) (best_each e h) in
        (x.0, λ _. x.1)
    | inr h ↦ (λ n t. false, λ i. absurd (both_ways (is_among lost e) h i))
  ]

  in_building : (x : Cut) → out_by m p k ≤ kept_value m (λ _. true) x k
  in_building x = omega (arith, out_le_value m x p k valid best.feasible, all_kept m x k l)

  -- a cut of the building bounds whoever has fewer exits
  fewer : (s : Model) (kept : ℕ → Bool) (r : List Move) → IsValid s → KeepsOpen m s kept → IsFeasible s r k → out_by s r k ≤ out_by m p k
  fewer s kept r valid_s d by =
      let x = cut_of m p k valid l best in
      omega (
        arith,
        x.1,
        out_le_value s x.0 r k valid_s by,
        kept_is m s kept x.0 k d l,
        kept_grows m kept (λ _. true) x.0 k (λ n _. refl),
        all_kept m x.0 k l,
      )

  one_lost : (e : ℕ) → is_among lost e ≡ true → kept_value m (λ n. not (eqb e n)) (cut_without e).0 k ≤ out_without e
  one_lost e h = omega (arith, (cut_without e).1 h, kept_is m (without e) (λ n. not (eqb e n)) (cut_without e).0 k (each e h).1 l)

  one_fewer : (e : ℕ) → is_among lost e ≡ true → out_without e ≤ out_by m p k
  one_fewer e h = fewer (without e) (λ n. not (eqb e n)) (plan e) (each e h).0 (each e h).1 (best_each e h).feasible

  none_lost : out_by none q k ≤ out_by m p k
  none_lost = fewer none (λ n. not (is_among lost n)) q valid_none all_lost feasible

  together : (x : Cut) → out_by none q k ≤ kept_value m (λ n. not (is_among lost n)) x k
  together x = omega (arith, out_le_value none x q k valid_none feasible, kept_is m none (λ n. not (is_among lost n)) x k all_lost l)

finish : (n most lacks outs alone bound all : ℕ) → lacks + outs ≡ suc n * most → alone ≤ outs → n * most + bound ≤ alone → all ≤ bound
    → lacks + all ≤ most
finish n most lacks outs alone bound all a b c d = omega (arith, a, b, c, d, suc-mul n most)

pub several_exits_cost_most : SeveralExitsCostMost
several_exits_cost_most m none without [] valid valid_none distinct all_lost each p q plan k l best feasible best_each =
    omega (arith, none_lost m none without [] valid valid_none all_lost each p q plan k l best feasible best_each)
several_exits_cost_most m none without (e ∷ es) valid valid_none distinct all_lost each p q plan k l best feasible best_each =
    let lost = e ∷ es in
    let cut = λ (i : ℕ). (cut_without m none without lost valid valid_none all_lost each p q plan k l best feasible best_each i).0 in
    let some = several m k cut (out_by m p k) (in_building m none without lost valid valid_none all_lost each p q plan k l best feasible best_each) e es distinct in
    finish (length es) (out_by m p k) (sum_by (λ i. out_by m p k - out_by (without i) (plan i) k) lost) (sum_by (λ i. out_by (without i) (plan i) k) lost)
    (sum_by (λ i. kept_value m (λ n. not (eqb i n)) (cut i) k) lost) (kept_value m (λ n. not (is_among lost n)) some.0 k) (out_by none q k)
    (sum_lacks (out_by m p k) (λ i. out_by (without i) (plan i) k) lost
    (one_fewer m none without lost valid valid_none all_lost each p q plan k l best feasible best_each))
    (sum_le (λ i. kept_value m (λ n. not (eqb i n)) (cut i) k) (λ i. out_by (without i) (plan i) k) lost
    (one_lost m none without lost valid valid_none all_lost each p q plan k l best feasible best_each))
    some.1
    (together m none without lost valid valid_none all_lost each p q plan k l best feasible best_each some.0)
