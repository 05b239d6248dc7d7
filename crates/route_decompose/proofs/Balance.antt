-- What taking people off one place does to the balance.
use Rattle.std.proofs.Common.{◌≡◌, ℕ, zero, suc, ◌+◌, ◌-◌, ◌<◌, ◌≤◌, true, false, cond, ◌&&◌, eqb, leb, length, refl, ap, ap₂, sym, ◌∙◌, arith, subst}
use Rattle.std.specs.List.{sum_by}
use Rattle.std.proofs.lemmas.Bool.{lt-ltb, true≢false}
use Rattle.std.proofs.lemmas.Bool.Decides.{nat_tests}
use Rattle.evac_law.specs.declared.model.Model.{Model}
use Rattle.evac_law.specs.Building.{arc_at, arrival, head, is_exit_at, tail}
use Rattle.evac_law.specs.Sums.{places}
use Rattle.evac_law.proofs.SumLemmas.{All-below, cond_nothing, cond_zero, pick_le, sum_below-pick, sum_by-add, sum_by-le_all, sum_by-nothing, sum_by-same}
use Rattle.plan_layout.specs.Tables.{PeopleTable, people_at}
use Rattle.route_decompose.specs.Places.{IsLess}
use Rattle.route_decompose.specs.Stocks.{IsBalancedBut, Stock, before, left_coming, going, stayed}

-- ---- the sums

coming_term : (h n d u t p a b x y : ℕ) → y + cond (eqb a b && eqb t (u - d)) p 0 ≡ x
    → cond (eqb h n && leb d u) x 0 ≡ cond (eqb h n && leb d u) y 0 + cond (eqb a b) (cond (eqb h n && eqb (t + d) u) p 0) 0
coming_term h n d u t p a b x y e = grind (arith, nat_tests)

going_term : (h n u t p a b x y : ℕ) → y + cond (eqb a b && eqb t u) p 0 ≡ x
    → cond (eqb h n) x 0 ≡ cond (eqb h n) y 0 + cond (eqb a b) (cond (eqb h n && eqb t u) p 0) 0
going_term h n u t p a b x y e = grind (arith, nat_tests)

abbrev with_left : Stock → PeopleTable → Stock
with_left s d = record s { left = d }

module _ (s v : Stock) (a t p : ℕ) (same : v.model ≡ s.model) (less : IsLess s.left v.left a t p) (here : a < length s.model.arcs) where
  pub coming_less : (n u : ℕ) → left_coming s n u ≡ left_coming v n u + cond (eqb (head s.model a) n && eqb (arrival s.model a t) u) p 0
  unfolding left_coming
  coming_less n u =
      let m = s.model in
      let extra = λ (b : ℕ). cond (eqb (head m b) n && eqb (arrival m b t) u) p 0 in
      let other : sum_by (λ b. cond (eqb (head v.model b) n && leb (arc_at v.model b).travel u) (people_at v.left b (u - (arc_at v.model b).travel)) 0) (places v.model.arcs)
      ≡ sum_by (λ b. cond (eqb (head m b) n && leb (arc_at m b).travel u) (people_at v.left b (u - (arc_at m b).travel)) 0) (places m.arcs) =
      ap (λ (w : Model). sum_by (λ b. cond (eqb (head w b) n && leb (arc_at w b).travel u) (people_at v.left b (u - (arc_at w b).travel)) 0) (places w.arcs)) same in
      sum_by-same _ (λ b. cond (eqb (head m b) n && leb (arc_at m b).travel u) (people_at v.left b (u - (arc_at m b).travel)) 0 + cond (eqb a b) (extra b) 0) (places m.arcs)
      (λ b. coming_term (head m b) n (arc_at m b).travel u t p a b _ _ (less.cells b (u - (arc_at m b).travel)))
      ∙ sum_by-add _ (λ b. cond (eqb a b) (extra b) 0) (places m.arcs)
      ∙ ap₂ (λ x y. x + y) (sym other) (sum_below-pick extra (length m.arcs) a ∙ ap (λ z. cond z (extra a) 0) (lt-ltb a (length m.arcs) here))

  pub going_less : (n u : ℕ) → going s n u ≡ going v n u + cond (eqb (tail s.model a) n && eqb t u) p 0
  unfolding going
  going_less n u =
      let m = s.model in
      let extra = λ (b : ℕ). cond (eqb (tail m b) n && eqb t u) p 0 in
      let other : sum_by (λ b. cond (eqb (tail v.model b) n) (people_at v.left b u) 0) (places v.model.arcs)
      ≡ sum_by (λ b. cond (eqb (tail m b) n) (people_at v.left b u) 0) (places m.arcs) =
      ap (λ (w : Model). sum_by (λ b. cond (eqb (tail w b) n) (people_at v.left b u) 0) (places w.arcs)) same in
      sum_by-same _ (λ b. cond (eqb (tail m b) n) (people_at v.left b u) 0 + cond (eqb a b) (extra b) 0) (places m.arcs)
      (λ b. going_term (tail m b) n u t p a b _ _ (less.cells b u))
      ∙ sum_by-add _ (λ b. cond (eqb a b) (extra b) 0) (places m.arcs)
      ∙ ap₂ (λ x y. x + y) (sym other) (sum_below-pick extra (length m.arcs) a ∙ ap (λ z. cond z (extra a) 0) (lt-ltb a (length m.arcs) here))

-- the sums look at the model and the people on arcs alone
pub coming_same : (s v : Stock) → v.model ≡ s.model → v.left ≡ s.left → (n u : ℕ) → left_coming v n u ≡ left_coming s n u
unfolding left_coming
coming_same s v e f n u =
    ap₂ (λ (w : Model) (c : PeopleTable). sum_by (λ b. cond (eqb (head w b) n && leb (arc_at w b).travel u) (people_at c b (u - (arc_at w b).travel)) 0) (places w.arcs)) e f

pub going_same : (s v : Stock) → v.model ≡ s.model → v.left ≡ s.left → (n u : ℕ) → going v n u ≡ going s n u
unfolding going
going_same s v e f n u = ap₂ (λ (w : Model) (c : PeopleTable). sum_by (λ b. cond (eqb (tail w b) n) (people_at c b u) 0) (places w.arcs)) e f

-- whoever comes along one arc comes
coming_here : (h n d t x : ℕ) → h ≡ n → cond (eqb h n && leb d (t + d)) x 0 ≡ x
coming_here h n d t x e = grind (arith, nat_tests)

pub coming_some : (s : Stock) (a t : ℕ) → a < length s.model.arcs → people_at s.left a t ≤ left_coming s (head s.model a) (arrival s.model a t)
unfolding left_coming
coming_some s a t l =
    let m = s.model in
    let u = arrival m a t in
    let f = λ (b : ℕ). cond (eqb (head m b) (head m a) && leb (arc_at m b).travel u) (people_at s.left b (u - (arc_at m b).travel)) 0 in
    let back : u - (arc_at m a).travel ≡ t = omega arith in
    omega (arith, pick_le f (length m.arcs) a l, coming_here (head m a) (head m a) (arc_at m a).travel t (people_at s.left a (u - (arc_at m a).travel)) refl, ap (people_at s.left a) back)

going_here : (h n x : ℕ) → h ≡ n → cond (eqb h n) x 0 ≡ x
going_here h n x e = grind (arith, nat_tests)

pub going_some : (s : Stock) (a t : ℕ) → a < length s.model.arcs → people_at s.left a t ≤ going s (tail s.model a) t
unfolding going
going_some s a t l =
    let m = s.model in
    let f = λ (b : ℕ). cond (eqb (tail m b) (tail m a)) (people_at s.left b t) 0 in
    omega (arith, pick_le f (length m.arcs) a l, going_here (tail m a) (tail m a) (people_at s.left a t) refl)

nobody : (h n x : ℕ) → (h ≡ n → x ≡ 0) → cond (eqb h n) x 0 ≤ 0
nobody h n x e = grind (arith, nat_tests)

pub going_none : (s : Stock) (n t : ℕ) → ((a : ℕ) → a < length s.model.arcs → tail s.model a ≡ n → people_at s.left a t ≡ 0) → going s n t ≡ 0
unfolding going
going_none s n t h =
    let m = s.model in
    let le = sum_by-le_all (λ b. cond (eqb (tail m b) n) (people_at s.left b t) 0) (λ _. 0) (places m.arcs)
    (All-below _ (length m.arcs) (λ b l. nobody (tail m b) n (people_at s.left b t) (h b l))) in
    omega (arith, le, sum_by-nothing (places m.arcs))

pub coming_all_none : (s : Stock) (n t : ℕ) → ((a u : ℕ) → people_at s.left a u ≡ 0) → left_coming s n t ≡ 0
unfolding left_coming
coming_all_none s n t h =
    let m = s.model in
    let le = sum_by-le_all (λ b. cond (eqb (head m b) n && leb (arc_at m b).travel t) (people_at s.left b (t - (arc_at m b).travel)) 0) (λ _. 0) (places m.arcs)
    (All-below _ (length m.arcs) (λ b l. cond_zero (eqb (head m b) n && leb (arc_at m b).travel t) _ (h b (t - (arc_at m b).travel)))) in
    omega (arith, le, sum_by-nothing (places m.arcs))

-- ---- one step of a route

module _ (s v : Stock) (same : v.model ≡ s.model) where
  pub balanced_with : (c u p d k q : ℕ)
      → ((n t : ℕ) → n < length s.model.nodes → is_exit_at s.model n ≡ false → t ≤ s.model.horizon
      → before s n t + left_coming s n t ≡ people_at s.holds n t + going s n t + cond (eqb c n && eqb u t) p 0
      → before v n t + left_coming v n t ≡ people_at v.holds n t + going v n t + cond (eqb d n && eqb k t) q 0)
      → IsBalancedBut s c u p → IsBalancedBut v d k q
  balanced_with c u p d k q f b n t l e h =
      let l' = rw same at l in
      let e' = rw same at e in
      let h' = rw same at h in
      f n t l' e' h' (b n t l' e' h')

before_same : (s v : Stock) → v.holds ≡ s.holds → v.waiting ≡ s.waiting → (n t : ℕ) → before v n t ≡ before s n t
before_same s v e f n t = ap₂ (λ (c d : PeopleTable). stayed c n t + people_at d n t) e f

-- some people are taken off an arc: they are gone from its tail, and no more from its head
module _ (s v : Stock) (a t p : ℕ) (same : v.model ≡ s.model) (less : IsLess s.left v.left a t p) (here : a < length s.model.arcs) (holds : v.holds ≡ s.holds) (waiting : v.waiting ≡ s.waiting) where
  pub move_step : IsBalancedBut s (head s.model a) (arrival s.model a t) p → IsBalancedBut v (tail s.model a) t p
  move_step b = grind (arith, balanced_with, coming_less, going_less, before_same)

-- in an exit nobody has to go on
pub exit_balanced : (s : Stock) (n t p : ℕ) → is_exit_at s.model n ≡ true → IsBalancedBut s 0 0 0 → IsBalancedBut s n t p
exit_balanced s n t p exit b i u l e h =
    omega (arith, b i u l e h, cond_nothing (eqb 0 i && eqb 0 u), not_here n i t u (λ f. true≢false (sym exit ∙ ap (is_exit_at s.model) f ∙ e)))
  where
    not_here : (x y z q : ℕ) → (x ≡ y → ⊥) → cond (eqb x y && eqb z q) p 0 ≡ 0
    not_here x y z q d = grind (arith, nat_tests)

-- some people are taken off a hold: they are gone from its node at its moment, and no more at the next
pub hold_step : (s v : Stock) (n t p : ℕ) → v.model ≡ s.model → v.left ≡ s.left → v.waiting ≡ s.waiting → IsLess s.holds v.holds n t p
    → IsBalancedBut s n (t + 1) p → IsBalancedBut v n t p
hold_step s v n t p same left waiting less b =
    balanced_with s v same n (t + 1) p n t p
    (λ i u l e h j. omega (arith, step i u j, coming_same s v same left i u, going_same s v same left i u))
    b
  where
    first : (b c g h h' i : ℕ) → h' + cond (eqb n i && eqb t 0) p 0 ≡ h → b + c ≡ h + g + cond (eqb n i && eqb (t + 1) 0) p 0
        → b + c ≡ h' + g + cond (eqb n i && eqb t 0) p 0
    first b c g h h' i e f = grind (arith, nat_tests)

    later : (b b' c g h h' i u : ℕ) → b' + cond (eqb n i && eqb t u) p 0 ≡ b → h' + cond (eqb n i && eqb t (suc u)) p 0 ≡ h
        → b + c ≡ h + g + cond (eqb n i && eqb (t + 1) (suc u)) p 0
        → b' + c ≡ h' + g + cond (eqb n i && eqb t (suc u)) p 0
    later b b' c g h h' i u d e f =
        let same_test : eqb (t + 1) (suc u) ≡ eqb t u = tests t u in
        let f' : b + c ≡ h + g + cond (eqb n i && eqb t u) p 0 = subst (λ z. b + c ≡ h + g + cond (eqb n i && z) p 0) same_test f in
        omega (arith, d, e, f')
      where
        tests : (x y : ℕ) → eqb (x + 1) (suc y) ≡ eqb x y
        tests x y = grind (arith, nat_tests)

    wait : (i u : ℕ) → people_at v.waiting i u ≡ people_at s.waiting i u
    wait i u = ap (λ (c : PeopleTable). people_at c i u) waiting

    step : (i u : ℕ) → before s i u + left_coming s i u ≡ people_at s.holds i u + going s i u + cond (eqb n i && eqb (t + 1) u) p 0
        → before v i u + left_coming s i u ≡ people_at v.holds i u + going s i u + cond (eqb n i && eqb t u) p 0
    step i zero j = grind (arith, wait, first)
    step i (suc u) j =
        later (before s i (suc u)) (before v i (suc u)) (left_coming s i (suc u)) (going s i (suc u)) (people_at s.holds i (suc u)) (people_at v.holds i (suc u)) i u
        (omega (arith, less.cells i u, wait i (suc u))) (less.cells i (suc u)) j

-- some people who are gone from a node at a moment don't come there from nowhere
pub wait_step : (s v : Stock) (n t p : ℕ) → v.model ≡ s.model → v.left ≡ s.left → v.holds ≡ s.holds → IsLess s.waiting v.waiting n t p
    → IsBalancedBut s n t p → IsBalancedBut v 0 0 0
wait_step s v n t p same left holds less b = grind (arith, balanced_with, cond_nothing, coming_same, going_same)
