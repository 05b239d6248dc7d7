-- A plan that has everybody out by a moment still has them out without its moves that arrive later.
use Rattle.std.proofs.Common.{◌≡◌, ℕ, ◌+◌, ◌<◌, ◌≤◌, Bool, true, false, cond, ◌&&◌, eqb, leb, List, [], ◌∷◌, length, get_or, refl, ap, ap₂, ◌∙◌, arith, inl, inr, ◌⊎◌, pos, ◌-ℤ◌, ◌≤ℤ◌}
use Rattle.std.specs.List.{All, sum_by, filter}
use Rattle.std.proofs.lemmas.List.Sums.{sum_by-cons}
use Rattle.std.proofs.lemmas.List.Elements.{All-filter}
use Rattle.std.proofs.lemmas.Bool.{cases_lt}
use Rattle.std.proofs.lemmas.Bool.Decides.{nat_tests}
use Rattle.evac_law.specs.declared.model.Model.{Model}
use Rattle.evac_law.specs.declared.plan.Move.{Move}
use Rattle.evac_law.specs.Building.{arrival, capacity, entry, head, is_exit_at, rate, tail}
use Rattle.evac_law.specs.Plans.{IsFeasible, NobodyIsLeft, came, held, left, moved, out_by}
use Rattle.evac_law.specs.Sums.{moments_to}
use Rattle.evac_law.proofs.Conserved.{all_out_leaves_nobody}
use Rattle.evac_law.proofs.SumLemmas.{cond_le, sum_by-nothing, sum_by-same, sum_by-same_all, sum_by-le_all, sum_moments-stays}
use Rattle.evac_law.specs.Laws.{AllOutIsClearable}

-- ---- sums over some of the moves

one_more : (c : Move → Bool) (f : Move → ℕ) (v : Move) (p : List Move) (b : Bool) → c v ≡ b
    → sum_by f (filter c p) ≡ sum_by (λ w. cond (c w) (f w) 0) p → sum_by f (filter c (v ∷ p)) ≡ sum_by (λ w. cond (c w) (f w) 0) (v ∷ p)
one_more c f v p true e h =
    let kept : filter c (v ∷ p) ≡ v ∷ filter c p = ap (λ b. cond b (v ∷ filter c p) (filter c p)) e in
    let x = ap (λ (z : List Move). sum_by f z) kept in
    omega (arith, x, sum_by-cons f v (filter c p), sum_by-cons (λ w. cond (c w) (f w) 0) v p, ap (λ z. cond z (f v) 0) e, h)
one_more c f v p false e h = grind (arith, sum_by-cons)

over_filter : (c : Move → Bool) (f : Move → ℕ) (p : List Move) → sum_by f (filter c p) ≡ sum_by (λ v. cond (c v) (f v) 0) p
over_filter c f [] = refl
over_filter c f (v ∷ p) = one_more c f v p (c v) refl (over_filter c f p)

-- ---- one move: r is its arrival, s its moment

arrived_soon : (e : Bool) (r k t w : ℕ) → t ≤ k → cond (leb r k) (cond (e && leb r t) w 0) 0 ≡ cond (e && leb r t) w 0
arrived_soon e r k t w i = grind (arith, nat_tests)

arrived_late : (e : Bool) (r k t w : ℕ) → k ≤ t → cond (leb r k) (cond (e && leb r t) w 0) 0 ≡ cond (e && leb r k) w 0
arrived_late e r k t w i = grind (arith, nat_tests)

left_soon : (e : Bool) (r s k t w : ℕ) → t ≤ k → (0 < w → s ≤ k → r ≤ k) → cond (leb r k) (cond (e && leb s t) w 0) 0 ≡ cond (e && leb s t) w 0
left_soon e r s k t w i h = grind (arith, nat_tests)

left_late : (e : Bool) (r s k t w : ℕ) → k ≤ t → s ≤ r → (0 < w → s ≤ k → r ≤ k) → cond (leb r k) (cond (e && leb s t) w 0) 0 ≡ cond (e && leb s k) w 0
left_late e r s k t w i j h = grind (arith, nat_tests)

none_later : (e : Bool) (r s k t w : ℕ) → k < t → s ≤ r → cond (leb r k) (cond (e && eqb s t) w 0) 0 ≡ 0
none_later e r s k t w i j = grind (arith, nat_tests)

-- ---- the moves that arrive by k

arrives_by : Model → ℕ → Move → Bool
arrives_by m k v = leb (arrival m v.arc v.moment) k

thinned : Model → List Move → ℕ → List Move
thinned m p k = filter (arrives_by m k) p

module _ (m : Model) (p : List Move) (k : ℕ) (over : NobodyIsLeft m p k) where
  came_soon : (n t : ℕ) → t ≤ k → came m (thinned m p k) n t ≡ came m p n t
  unfolding came thinned arrives_by
  came_soon n t i =
      ap (λ z. sum_by (entry m n) (moments_to t) + z)
      (over_filter (arrives_by m k) (λ v. cond (eqb (head m v.arc) n && leb (arrival m v.arc v.moment) t) v.people 0) p
      ∙ sum_by-same _ _ p (λ v. arrived_soon (eqb (head m v.arc) n) (arrival m v.arc v.moment) k t v.people i))

  came_late : (n t : ℕ) → n < length m.nodes → k ≤ t → came m (thinned m p k) n t ≡ came m p n k
  unfolding came thinned arrives_by
  came_late n t l i =
      ap₂ (λ x y. x + y) (sum_moments-stays (entry m n) k t i (λ s j. over.nobody_to_come n s l j))
      (over_filter (arrives_by m k) (λ v. cond (eqb (head m v.arc) n && leb (arrival m v.arc v.moment) t) v.people 0) p
      ∙ sum_by-same _ _ p (λ v. arrived_late (eqb (head m v.arc) n) (arrival m v.arc v.moment) k t v.people i))

  gone_soon : (n t : ℕ) → t ≤ k → left m (thinned m p k) n t ≡ left m p n t
  unfolding left thinned arrives_by
  gone_soon n t i =
      over_filter (arrives_by m k) (λ v. cond (eqb (tail m v.arc) n && leb v.moment t) v.people 0) p
      ∙ sum_by-same_all _ _ p (λ j d h. let v = get_or p j d in
      left_soon (eqb (tail m v.arc) n) (arrival m v.arc v.moment) v.moment k t v.people i (over.nobody_on_way j d h))

  gone_late : (n t : ℕ) → k ≤ t → left m (thinned m p k) n t ≡ left m p n k
  unfolding left thinned arrives_by
  gone_late n t i =
      over_filter (arrives_by m k) (λ v. cond (eqb (tail m v.arc) n && leb v.moment t) v.people 0) p
      ∙ sum_by-same_all _ _ p (λ j d h. let v = get_or p j d in
      left_late (eqb (tail m v.arc) n) (arrival m v.arc v.moment) v.moment k t v.people i (omega arith) (over.nobody_on_way j d h))

  held_soon : (n t : ℕ) → t ≤ k → held m (thinned m p k) n t ≡ held m p n t
  unfolding held
  held_soon n t i = ap₂ (λ x y. pos x -ℤ pos y) (came_soon n t i) (gone_soon n t i)

  held_late : (n t : ℕ) → n < length m.nodes → k ≤ t → held m (thinned m p k) n t ≡ held m p n k
  unfolding held
  held_late n t l i = ap₂ (λ x y. pos x -ℤ pos y) (came_late n t l i) (gone_late n t i)

  moved_few : (a t : ℕ) → moved (thinned m p k) a t ≤ moved p a t
  unfolding moved thinned arrives_by
  moved_few a t =
      let f = λ (v : Move). cond (eqb v.arc a && eqb v.moment t) v.people 0 in
      let fewer = sum_by-le_all (λ v. cond (arrives_by m k v) (f v) 0) f p (λ j d h. cond_le (arrives_by m k (get_or p j d)) (f (get_or p j d))) in
      omega (arith, over_filter (arrives_by m k) f p, fewer)

  moved_late : (a t : ℕ) → k < t → moved (thinned m p k) a t ≡ 0
  unfolding moved thinned arrives_by
  moved_late a t i =
      over_filter (arrives_by m k) (λ v. cond (eqb v.arc a && eqb v.moment t) v.people 0) p
      ∙ sum_by-same _ (λ _. 0) p (λ v. none_later (eqb v.arc a) (arrival m v.arc v.moment) v.moment k t v.people i (omega arith))
      ∙ sum_by-nothing p

  out_late : (t : ℕ) → k ≤ t → out_by m (thinned m p k) t ≡ out_by m p k
  unfolding out_by thinned arrives_by
  out_late t i =
      over_filter (arrives_by m k) (λ v. cond (is_exit_at m (head m v.arc) && leb (arrival m v.arc v.moment) t) v.people 0) p
      ∙ sum_by-same _ _ p (λ v. arrived_late (is_exit_at m (head m v.arc)) (arrival m v.arc v.moment) k t v.people i)

thinned_arcs : (m : Model) (p : List Move) (k : ℕ) → All (λ v. v.arc < length m.arcs) p → All (λ v. v.arc < length m.arcs) (thinned m p k)
unfolding thinned arrives_by
thinned_arcs m p k h = All-filter (arrives_by m k) (λ v. v.arc < length m.arcs) p h

-- they make a feasible plan at every later moment too
thinned_feasible : (m : Model) (p : List Move) (k t : ℕ) → NobodyIsLeft m p k → IsFeasible m p k → IsFeasible m (thinned m p k) t
thinned_feasible m p k t over h = record {
  arcs = thinned_arcs m p k h.arcs;
  rates = λ a s i j. by_rate a s i (cases_lt k s);
  holds = λ n s i e j. by_hold n s i e (cases_lt k s);
}
  where
    by_rate : (a s : ℕ) → a < length m.arcs → (k < s) ⊎ (s ≤ k) → moved (thinned m p k) a s ≤ rate m a s
    by_rate a s i (inl late) = omega (arith, moved_late m p k over a s late)
    by_rate a s i (inr soon) = omega (arith, moved_few m p k over a s, h.rates a s i soon)

    by_hold : (n s : ℕ) → n < length m.nodes → is_exit_at m n ≡ false → (k < s) ⊎ (s ≤ k)
        → (pos 0 ≤ℤ held m (thinned m p k) n s) × (held m (thinned m p k) n s ≤ℤ pos (capacity m n))
    by_hold n s i e (inl late) = rw (held_late m p k over n s i (omega arith)) (h.holds n k i e (omega arith))
    by_hold n s i e (inr soon) = rw (held_soon m p k over n s soon) (h.holds n s i e soon)

pub all_out_is_clearable : AllOutIsClearable
all_out_is_clearable m p k valid l h all =
    let over = all_out_leaves_nobody m p k valid h all in
    (thinned m p k, thinned_feasible m p k m.horizon over h, out_late m p k over m.horizon l ∙ all)
