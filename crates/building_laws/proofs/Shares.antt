-- Where each person counts as so many shares, each cut is worth so many times as much.
use Rattle.std.proofs.Common.{◌≡◌, ℕ, ◌+◌, ◌*◌, ◌<◌, ◌≤◌, Bool, cond, not, ◌&&◌, ◌||◌, eqb, List, length, refl, ap, sym, ◌∙◌, arith, inl, inr, subst}
use Rattle.std.specs.List.{sum_by}
use Rattle.std.proofs.Math.Nat.{le_of_mul-le-mul_left, mul-le-mul_left}
use Rattle.std.proofs.lemmas.Bool.Decides.{nat_tests}
use Rattle.evac_law.specs.declared.model.Model.{Model}
use Rattle.evac_law.specs.declared.plan.Move.{Move}
use Rattle.evac_law.specs.Building.{IsValid, capacity, entered_by, entry, people, rate}
use Rattle.evac_law.specs.Cuts.{Cut, cut_value, leaves_cut}
use Rattle.evac_law.specs.Plans.{IsFeasible, out_by}
use Rattle.evac_law.specs.Sums.{below, moments_to, places}
use Rattle.evac_law.proofs.Entries.{entered_all}
use Rattle.evac_law.proofs.SumLemmas.{cond_mono, sum2, sum2-le, sum_below-same, sum_by-times, times_cond}
use Rattle.evac_law.proofs.WeakDuality.{out_le_value, value_is}
use Rattle.building_laws.specs.Shares.{HasShares, HasTimesTheCurve, HasTimesThePeople, RoundedRatesBracket}
use Rattle.building_laws.proofs.Duality.{cleared_or_short, cut_of}
use Rattle.building_laws.proofs.Values.{value_over}

-- a sum of terms that are s times as large
times2 : (s n k : ℕ) (f g : ℕ → ℕ → ℕ) → ((i j : ℕ) → i < n → j < k → g i j ≡ s * f i j) → sum2 n k g ≡ s * sum2 n k f
times2 s n k f g h =
    sum_below-same (λ i. sum_by (g i) (below k)) (λ i. s * sum_by (f i) (below k)) n
    (λ i l. sum_below-same (g i) (λ j. s * f i j) k (λ j u. h i j l u) ∙ sum_by-times s (f i) (below k))
    ∙ sum_by-times s (λ i. sum_by (f i) (below k)) (below n)

-- or at least so large
times2_le : (s n k : ℕ) (f g : ℕ → ℕ → ℕ) → ((i j : ℕ) → i < n → j < k → s * f i j ≤ g i j) → s * sum2 n k f ≤ sum2 n k g
times2_le s n k f g h = omega (arith, times2 s n k f (λ i j. s * f i j) (λ i j _ _. refl), sum2-le n k (λ i j. s * f i j) g h)

-- or at most
le_times2 : (s n k : ℕ) (f g : ℕ → ℕ → ℕ) → ((i j : ℕ) → i < n → j < k → g i j ≤ s * f i j) → sum2 n k g ≤ s * sum2 n k f
le_times2 s n k f g h = omega (arith, times2 s n k f (λ i j. s * f i j) (λ i j _ _. refl), sum2-le n k g (λ i j. s * f i j) h)

-- an entry of 0 counts nothing anyhow
entry_part : (i : Bool) (p : ℕ) → cond (i || eqb p 0) 0 p ≡ cond (not i) p 0
entry_part i p = grind (arith, nat_tests)

times_entry : (i : Bool) (s p q : ℕ) → q ≡ s * p → cond (i || eqb q 0) 0 q ≡ s * cond (i || eqb p 0) 0 p
times_entry i s p q e =
    entry_part i q ∙ ap (λ v. cond (not i) v 0) e ∙ times_cond (not i) s p ∙ ap (λ v. s * v) (sym (entry_part i p))

more_part : (b : Bool) (s p q : ℕ) → s * p ≤ q → s * cond b p 0 ≤ cond b q 0
more_part b s p q l = omega (arith, times_cond b s p, cond_mono b (s * p) q (λ _. l))

less_part : (b : Bool) (s p q : ℕ) → q ≤ s * p → cond b q 0 ≤ s * cond b p 0
less_part b s p q l = omega (arith, times_cond b s p, cond_mono b q (s * p) (λ _. l))

module _ (m g : Model) (s : ℕ) (times : HasTimesThePeople m g s) where
  leaves_same : (x : Cut) (k t a : ℕ) → leaves_cut g x k t a ≡ leaves_cut m x k t a
  leaves_same x k t a = grind (arith, times.shape.tails, times.shape.heads, times.shape.exits, times.travels)

  module _ (x : Cut) (k : ℕ) where
    abbrev entries_in : Model → ℕ
    entries_in b = sum2 (length m.nodes) (k + 1) (λ n t. cond (x n t || eqb (entry b n t) 0) 0 (entry b n t))

    abbrev holds_in : Model → ℕ
    holds_in b = sum2 (length m.nodes) k (λ n t. cond (x n t && not (x n (t + 1))) (capacity b n) 0)

    abbrev arcs_in : Model → ℕ
    arcs_in b = sum2 (k + 1) (length m.arcs) (λ t a. cond (leaves_cut m x k t a) (rate b a t) 0)

    value_parts : cut_value g x k ≡ entries_in g + (holds_in g + arcs_in g)
    value_parts =
        omega (
          arith,
          value_over m g x k times.shape.places times.shape.arcs,
          arcs_of_g,
        )
      where
        arcs_of_g : sum2 (k + 1) (length m.arcs) (λ t a. cond (leaves_cut g x k t a) (rate g a t) 0) ≡ arcs_in g
        arcs_of_g =
            sum_below-same _ _ (k + 1)
            (λ t _. sum_below-same (λ a. cond (leaves_cut g x k t a) (rate g a t) 0) (λ a. cond (leaves_cut m x k t a) (rate g a t) 0) (length m.arcs)
            (λ a _. ap (λ b. cond b (rate g a t) 0) (leaves_same x k t a)))

    entries_times : entries_in g ≡ s * entries_in m
    entries_times =
        times2 s (length m.nodes) (k + 1) (λ n t. cond (x n t || eqb (entry m n t) 0) 0 (entry m n t))
        (λ n t. cond (x n t || eqb (entry g n t) 0) 0 (entry g n t))
        (λ n t _ _. times_entry (x n t) s (entry m n t) (entry g n t) (times.entries n t))

    pub value_more : k ≤ m.horizon → ((n : ℕ) → s * capacity m n ≤ capacity g n)
        → ((a t : ℕ) → a < length m.arcs → t ≤ m.horizon → s * rate m a t ≤ rate g a t) → s * cut_value m x k ≤ cut_value g x k
    value_more l capacities rates =
        omega (
          arith,
          value_parts,
          ap (λ v. s * v) (value_is m x k),
          entries_times,
          times2_le s (length m.nodes) k (λ n t. cond (x n t && not (x n (t + 1))) (capacity m n) 0)
              (λ n t. cond (x n t && not (x n (t + 1))) (capacity g n) 0)
              (λ n t _ _. more_part (x n t && not (x n (t + 1))) s (capacity m n) (capacity g n) (capacities n)),
          times2_le s (k + 1) (length m.arcs) (λ t a. cond (leaves_cut m x k t a) (rate m a t) 0) (λ t a. cond (leaves_cut m x k t a) (rate g a t) 0)
              (λ t a i j. more_part (leaves_cut m x k t a) s (rate m a t) (rate g a t) (rates a t j (omega (arith, i, l)))),
        )

    pub value_less : k ≤ m.horizon → ((n : ℕ) → capacity g n ≤ s * capacity m n)
        → ((a t : ℕ) → a < length m.arcs → t ≤ m.horizon → rate g a t ≤ s * rate m a t) → cut_value g x k ≤ s * cut_value m x k
    value_less l capacities rates =
        omega (
          arith,
          value_parts,
          ap (λ v. s * v) (value_is m x k),
          entries_times,
          le_times2 s (length m.nodes) k (λ n t. cond (x n t && not (x n (t + 1))) (capacity m n) 0)
              (λ n t. cond (x n t && not (x n (t + 1))) (capacity g n) 0)
              (λ n t _ _. less_part (x n t && not (x n (t + 1))) s (capacity m n) (capacity g n) (capacities n)),
          le_times2 s (k + 1) (length m.arcs) (λ t a. cond (leaves_cut m x k t a) (rate m a t) 0) (λ t a. cond (leaves_cut m x k t a) (rate g a t) 0)
              (λ t a i j. less_part (leaves_cut m x k t a) s (rate m a t) (rate g a t) (rates a t j (omega (arith, i, l)))),
        )

  pub people_times : IsValid m → IsValid g → people g ≡ s * people m
  unfolding entered_by
  people_times valid valid' =
      omega (
        arith,
        entered_all m valid,
        ap (λ v. s * v) (entered_all m valid),
        entered_all g valid',
        times2 s (length m.nodes) (m.horizon + 1) (entry m) (entry g) (λ n t _ _. times.entries n t),
        ap (λ i. sum_by (λ n. sum_by (entry g n) (moments_to g.horizon)) (below i)) times.shape.places,
        ap (λ h. sum_by (λ n. sum_by (entry g n) (moments_to h)) (places m.nodes)) times.horizon,
      )

pub rounded_rates_bracket : RoundedRatesBracket
rounded_rates_bracket slow g fast s valid-slow valid valid-fast more less p q r k l feasible best best-fast =
    let y = cut_of g q k valid l best in
    let x = cut_of fast r k valid-fast (omega (arith, l, less.people.horizon)) best-fast in (
      omega (
        arith,
        mul-le-mul_left s (out_le_value slow y.0 p k valid-slow feasible),
        value_more slow g s more.people y.0 k (omega (arith, l, more.people.horizon)) more.capacities more.rates,
        y.1,
      ),
      omega (
        arith,
        out_le_value g x.0 q k valid best.feasible,
        value_less fast g s less.people x.0 k (omega (arith, l, less.people.horizon)) less.capacities less.rates,
        mul-le-mul_left s x.1,
      ),
    )

-- ---- just so many

at_most : (x y : ℕ) → x ≡ y → x ≤ y
at_most x y e = omega (arith, e)

module _ (m g : Model) (s : ℕ) (shares : HasShares m g s) (valid : IsValid m) (valid' : IsValid g) where
  abbrev times : HasTimesThePeople m g s
  times = shares.people

  value_times : (x : Cut) (k : ℕ) → k ≤ m.horizon → cut_value g x k ≡ s * cut_value m x k
  value_times x k l =
      omega (
        arith,
        value_more m g s times x k l (λ n. at_most _ _ (sym (shares.capacities n))) (λ a t i u. at_most _ _ (sym (shares.rates a t i u))),
        value_less m g s times x k l (λ n. at_most _ _ (shares.capacities n)) (λ a t i u. at_most _ _ (shares.rates a t i u)),
      )

  -- a cut that bars one of them bars the other
  no_plan : (p : List Move) (x : Cut) → cut_value g x g.horizon < people g → IsFeasible m p m.horizon → out_by m p m.horizon ≡ people m → ⊥
  no_plan p x short feasible all =
      omega (
        arith,
        mul-le-mul_left s (out_le_value m x p m.horizon valid feasible),
        ap (λ v. s * v) all,
        value_times x m.horizon (omega arith),
        people_times m g s times valid valid',
        ap (cut_value g x) times.horizon,
        short,
      )

  no_plan_in_shares : 1 ≤ s → (q : List Move) (x : Cut) → cut_value m x m.horizon < people m → IsFeasible g q g.horizon
      → out_by g q g.horizon ≡ people g → ⊥
  no_plan_in_shares some q x short feasible all =
      let enough : s * people m ≤ s * cut_value m x m.horizon =
      omega (
        arith,
        out_le_value g x q m.horizon valid' (subst (IsFeasible g q) (sym times.horizon) feasible),
        value_times x m.horizon (omega arith),
        all,
        ap (out_by g q) times.horizon,
        people_times m g s times valid valid',
      ) in
      omega (arith, le_of_mul-le-mul_left enough (omega (arith, some)), short)

  pub shares_agree : HasTimesTheCurve m g s
  shares_agree = record {
    curve = λ p q k l best best'.
        let x = cut_of m p k valid l best in
        let y = cut_of g q k valid' (omega (arith, l, times.horizon)) best' in
        omega (
          arith,
          out_le_value g x.0 q k valid' best'.feasible,
          value_times x.0 k l,
          mul-le-mul_left s x.1,
          y.1,
          value_times y.0 k l,
          mul-le-mul_left s (out_le_value m y.0 p k valid best.feasible),
        );
    clears = λ room plan. elim (cleared_or_short g valid' room) [
      | inl cleared ↦ cleared
      | inr short ↦ absurd (no_plan plan.0 short.0 short.1 plan.1 plan.2)
    ];
    clears_back = λ some room plan. elim (cleared_or_short m valid room) [
      | inl cleared ↦ cleared
      | inr short ↦ absurd (no_plan_in_shares some plan.0 short.0 short.1 plan.1 plan.2)
    ];
  }
