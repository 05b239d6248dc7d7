-- From a flow either one with one person more out, or a set of pairs that no one can leave: it grows pair by pair, each with a flow that has a
-- person too many there.
use Rattle.std.proofs.Common.{◌≡◌, ℕ, zero, suc, ◌+◌, ◌-◌, ◌<◌, ◌≤◌, Bool, true, false, cond, not, ◌&&◌, ◌||◌, ◌⊎◌, eqb, ltb, leb, length, refl, ap, ap₂, sym, ◌∙◌, arith, inl, inr, IsFalse, subst}
use Rattle.std.proofs.lemmas.Bool.{both_ways, cases_lt, eq-eqb, leb-true, lt-ltb, ltb-true, not-true, or_cases, or_parts}
use Rattle.std.proofs.lemmas.Bool.Decides.{nat_tests}
use Rattle.evac_law.specs.declared.model.Model.{Model}
use Rattle.evac_law.specs.Building.{IsValid, arrival, capacity, head, is_exit_at, rate, tail}
use Rattle.evac_law.proofs.SumLemmas.{gather_one, same_pair, sum2, sum2-add, sum2-le}
use Rattle.evac_law.proofs.ValidLemmas.{arc_is, head_in, tail_in}
use Rattle.building_laws.proofs.Counts.{found}
use Rattle.building_laws.proofs.Steps.{come_back, end_here, go, go_back, go_out, off_pair, stay_back, wait, wait_back}
use Rattle.building_laws.proofs.Tables.{IsFlow, gone, gone_more, one_added, one_taken, point}

-- ---- a pair that passes a test, or none does

found2 : (b : ℕ → ℕ → Bool) (n k : ℕ)
    → ((i : ℕ) × (j : ℕ) × (i < n) × (j < k) × (b i j ≡ true)) ⊎ ((i j : ℕ) → i < n → j < k → b i j ≡ false)
found2 b zero k = inr (λ i j l s. absurd (omega (arith, l)))
found2 b (suc n) k = elim (found2 b n k) [
  | inl some ↦ inl (some.0, some.1, omega (arith, some.2), some.3, some.4)
  | inr never ↦ elim (found (b n) k) [
    | inl here ↦ inl (n, here.0, omega arith, here.1, here.2)
    | inr not_here ↦ inr (λ i j l s. elim (cases_lt i n) [
      | inl less ↦ never i j less s
      | inr last ↦ let same : n ≡ i = omega (arith, l, last) in subst (λ c. b c j ≡ false) same (not_here j s)
    ])
  ]
]

-- three and five tests at once
and3 : (p q r : Bool) → (p && (q && r)) ≡ true → (p ≡ true) × (q ≡ true) × (r ≡ true)
and3 p q r e = (grind arith, grind arith, grind arith)

and5 : (p q r s t : Bool) → (p && (q && (r && (s && t)))) ≡ true → (p ≡ true) × (q ≡ true) × (r ≡ true) × (s ≡ true) × (t ≡ true)
and5 p q r s t e = (grind arith, grind arith, grind arith, grind arith, grind arith)

-- ---- sets of pairs

abbrev with_pair : (ℕ → ℕ → Bool) → ℕ → ℕ → ℕ → ℕ → Bool
with_pair r n t i s = r i s || (eqb n i && eqb t s)

pair_in : (r : ℕ → ℕ → Bool) (n t : ℕ) → with_pair r n t n t ≡ true
pair_in r n t = last (r n t) (eqb n n) (eqb t t) (eq-eqb n n refl) (eq-eqb t t refl)
  where
    last : (b c d : Bool) → c ≡ true → d ≡ true → (b || (c && d)) ≡ true
    last b c d e f = grind arith

module _ (m : Model) (z k : ℕ) (by_z : k ≤ z) (valid : IsValid m) (f h : ℕ → ℕ → ℕ) (flow : IsFlow m z f h (λ _ _. 0)) where
  -- an arc at a moment that has to stay the same: into an exit by k, or with an end outside the set
  abbrev pub IsFixed : (ℕ → ℕ → Bool) → ℕ → ℕ → Type 0
  IsFixed r a s =
      ((is_exit_at m (head m a) ≡ true) × (arrival m a s ≤ k))
      ⊎ ((is_exit_at m (head m a) ≡ false) × ((r (tail m a) s ≡ false) ⊎ (r (head m a) (arrival m a s) ≡ false)))

  -- a flow with a person too many at a pair, that is the given one but within a set
  pub record Witness (r : ℕ → ℕ → Bool) (n t : ℕ) : Type 0 where
    pub g : ℕ → ℕ → ℕ
    pub j : ℕ → ℕ → ℕ
    pub moves : IsFlow m z g j (point n t)
    pub arcs : (a s : ℕ) → a < length m.arcs → arrival m a s ≤ z
        → IsFixed r a s → g a s ≡ f a s
    pub holds : (i s : ℕ) → s < z → (r i s ≡ false) ⊎ (r i (s + 1) ≡ false) → j i s ≡ h i s
    pub out : (i : ℕ) → i ≤ k → gone m i g ≡ gone m i f

  pub record Grown (r : ℕ → ℕ → Bool) : Type 0 where
    pub inside : (n t : ℕ) → r n t ≡ true → (n < length m.nodes) × IsFalse (is_exit_at m n) × (t ≤ z)
    pub witness : (n t : ℕ) → r n t ≡ true → Witness r n t

  -- ---- one pair more

  before_pair : (r : ℕ → ℕ → Bool) (n t i s : ℕ) → with_pair r n t i s ≡ false → r i s ≡ false
  before_pair r n t i s e = (or_parts (r i s) (eqb n i && eqb t s) e).0

  wider : (r : ℕ → ℕ → Bool) (n t i s : ℕ) → Witness r i s → Witness (with_pair r n t) i s
  wider r n t i s w = record {
    g = w.g;
    j = w.j;
    moves = w.moves;
    arcs = λ a u l in_time off. w.arcs a u l in_time (less a u off);
    holds = λ c u l off. w.holds c u l (either c u off);
    out = w.out;
  }
    where
      less : (a u : ℕ) → IsFixed (with_pair r n t) a u → IsFixed r a u
      less a u (inl exit) = inl exit
      less a u (inr (inner, inl off)) = inr (inner, inl (before_pair r n t (tail m a) u off))
      less a u (inr (inner, inr off)) = inr (inner, inr (before_pair r n t (head m a) (arrival m a u) off))

      either : (c u : ℕ) → (with_pair r n t c u ≡ false) ⊎ (with_pair r n t c (u + 1) ≡ false) → (r c u ≡ false) ⊎ (r c (u + 1) ≡ false)
      either c u (inl off) = inl (before_pair r n t c u off)
      either c u (inr off) = inr (before_pair r n t c (u + 1) off)

  grown_by : (r : ℕ → ℕ → Bool) (n t : ℕ) → Grown r → n < length m.nodes → IsFalse (is_exit_at m n) → t ≤ z → Witness (with_pair r n t) n t
      → Grown (with_pair r n t)
  grown_by r n t grown i e l new = record {
    inside = λ c s b. elim (or_cases (r c s) (eqb n c && eqb t s) b) [
      | inl old ↦ grown.inside c s old
      | inr here ↦ let pair = same_pair n c t s here in
          (omega (arith, i, pair.0), subst (λ x. is_exit_at m x ≡ false) pair.0 e, omega (arith, l, pair.1))
    ];
    witness = λ c s b. elim (or_cases (r c s) (eqb n c && eqb t s) b) [
      | inl old ↦ wider r n t c s (grown.witness c s old)
      | inr here ↦ let pair = same_pair n c t s here in
          subst (λ x. Witness (with_pair r n t) x s) pair.0 (subst (λ y. Witness (with_pair r n t) n y) pair.1 new)
    ];
  }

  -- ---- the tests: what lets somebody too many leave the set, and what lets a person be too many

  -- r is left along an arc into an exit, along an arc, or back along one
  abbrev exits_by : (ℕ → ℕ → Bool) → ℕ → ℕ → Bool
  exits_by r a t = leb (arrival m a t) k && (is_exit_at m (head m a) && (r (tail m a) t && (true && ltb (f a t) (rate m a t))))

  abbrev goes_by : (ℕ → ℕ → Bool) → ℕ → ℕ → Bool
  goes_by r a t = leb (arrival m a t) z && (not (is_exit_at m (head m a)) && (r (tail m a) t && (not (r (head m a) (arrival m a t)) && ltb (f a t) (rate m a t))))

  abbrev returns_by : (ℕ → ℕ → Bool) → ℕ → ℕ → Bool
  returns_by r a t = leb (arrival m a t) z && (not (is_exit_at m (head m a)) && (r (head m a) (arrival m a t) && (not (r (tail m a) t) && ltb 0 (f a t))))

  -- by waiting, or by not having waited
  abbrev waits_by : (ℕ → ℕ → Bool) → ℕ → ℕ → Bool
  waits_by r n t = r n t && (not (r n (t + 1)) && ltb (h n t) (capacity m n))

  abbrev hurries_by : (ℕ → ℕ → Bool) → ℕ → ℕ → Bool
  hurries_by r n t = r n (t + 1) && (not (r n t) && ltb 0 (h n t))

  -- somebody sets out who is under way at z, or is in a node then
  abbrev under_way_by : (ℕ → ℕ → Bool) → ℕ → ℕ → Bool
  under_way_by r a t = ltb z (arrival m a t) && (not (r (tail m a) t) && ltb 0 (f a t))

  abbrev left_by : (ℕ → ℕ → Bool) → ℕ → Bool
  left_by r n = not (is_exit_at m n) && (not (r n z) && ltb 0 (h n z))

  -- or somebody goes out after k
  abbrev late_by : (ℕ → ℕ → Bool) → ℕ → ℕ → Bool
  late_by r a t = leb (arrival m a t) z && (is_exit_at m (head m a) && (ltb k (arrival m a t) && (not (r (tail m a) t) && ltb 0 (f a t))))

  pub record Closed (r : ℕ → ℕ → Bool) : Type 0 where
    pub no_exit : (a t : ℕ) → a < length m.arcs → t < z + 1 → exits_by r a t ≡ false
    pub no_arc : (a t : ℕ) → a < length m.arcs → t < z + 1 → goes_by r a t ≡ false
    pub no_return : (a t : ℕ) → a < length m.arcs → t < z + 1 → returns_by r a t ≡ false
    pub no_wait : (n t : ℕ) → n < length m.nodes → t < z → waits_by r n t ≡ false
    pub no_hurry : (n t : ℕ) → n < length m.nodes → t < z → hurries_by r n t ≡ false
    pub no_way : (a t : ℕ) → a < length m.arcs → t < z + 1 → under_way_by r a t ≡ false
    pub no_rest : (n : ℕ) → n < length m.nodes → left_by r n ≡ false
    pub no_late : (a t : ℕ) → a < length m.arcs → t < z + 1 → late_by r a t ≡ false

  -- ---- what each of them leads to

  abbrev pub Better : Type 0
  Better =
      (g : ℕ → ℕ → ℕ) × (j : ℕ → ℕ → ℕ) × IsFlow m z g j (λ _ _. 0)
      × ((i : ℕ) → i ≤ k → gone m i f ≤ gone m i g) × (gone m k g ≡ gone m k f + 1)

  abbrev Larger : (ℕ → ℕ → Bool) → Type 0
  Larger r = (n : ℕ) × (t : ℕ) × (n < length m.nodes) × (t ≤ z) × (r n t ≡ false) × Grown (with_pair r n t)

  leaving_exit : (r : ℕ → ℕ → Bool) → Grown r → (a t : ℕ) → a < length m.arcs → t < z + 1 → exits_by r a t ≡ true → Better
  leaving_exit r grown a t i l e =
      let is = and5 (leb (arrival m a t) k) (is_exit_at m (head m a)) (r (tail m a) t) true (ltb (f a t) (rate m a t)) e in
      let w = grown.witness (tail m a) t is.2 in
      let in_time = leb-true (arrival m a t) k is.0 in
      let room : w.g a t < rate m a t = omega (arith, w.arcs a t i (omega (arith, in_time, by_z)) (inl (is.1, in_time)), ltb-true (f a t) (rate m a t) is.4) in
      let more = one_added w.g a t in
      let g = λ (b s : ℕ). w.g b s + point a t b s in
      let one = ap₂ {C = ℕ} (λ x y. cond (x && y) 1 0) is.1 is.0 in (
        g,
        w.j,
        go_out m z w.g g w.j a t i is.1 more room w.moves,
        λ c s. omega (arith, gone_more m c w.g g a t i more, w.out c s),
        omega (arith, gone_more m k w.g g a t i more, one, w.out k (omega arith)),
      )

  -- an arc whose ends are both in the set isn't one that has to stay the same
  apart_arc : (r : ℕ → ℕ → Bool) (a t b s : ℕ) → is_exit_at m (head m a) ≡ false → r (tail m a) t ≡ true → r (head m a) (arrival m a t) ≡ true
      → IsFixed r b s → point a t b s ≡ 0
  apart_arc r a t b s e p q off = off_pair a b t s (clash off)
    where
      clash : IsFixed r b s → a ≡ b → t ≡ s → ⊥
      clash (inl exit) x y = both_ways (is_exit_at m (head m b)) (sym (ap (λ c. is_exit_at m (head m c)) x) ∙ e) exit.0
      clash (inr (inner, inl no_tail)) x y = both_ways (r (tail m b) s) no_tail (sym (ap₂ (λ c u. r (tail m c) u) x y) ∙ p)
      clash (inr (inner, inr no_head)) x y = both_ways (r (head m b) (arrival m b s)) no_head (sym (ap₂ (λ c u. r (head m c) (arrival m c u)) x y) ∙ q)

  apart_hold : (r : ℕ → ℕ → Bool) (n t i s : ℕ) → r n t ≡ true → r n (t + 1) ≡ true → (r i s ≡ false) ⊎ (r i (s + 1) ≡ false) → point n t i s ≡ 0
  apart_hold r n t i s p q off = off_pair n i t s (clash off)
    where
      clash : (r i s ≡ false) ⊎ (r i (s + 1) ≡ false) → n ≡ i → t ≡ s → ⊥
      clash (inl off) x y = both_ways (r i s) off (sym (ap₂ r x y) ∙ p)
      clash (inr off) x y = both_ways (r i (s + 1)) off (sym (ap₂ (λ c u. r c (u + 1)) x y) ∙ q)

  old_in : (r : ℕ → ℕ → Bool) (n t i s : ℕ) → r i s ≡ true → with_pair r n t i s ≡ true
  old_in r n t i s e = ap (λ b. b || (eqb n i && eqb t s)) e

  leaving_arc : (r : ℕ → ℕ → Bool) → Grown r → (a t : ℕ) → a < length m.arcs → t < z + 1 → goes_by r a t ≡ true → Larger r
  unfolding wider
  leaving_arc r grown a t i l e =
      let v = head m a in
      let u = arrival m a t in
      let is = and5 (leb u z) (not (is_exit_at m v)) (r (tail m a) t) (not (r v u)) (ltb (f a t) (rate m a t)) e in
      let w = wider r v u (tail m a) t (grown.witness (tail m a) t is.2) in
      let old = grown.witness (tail m a) t is.2 in
      let in_time = leb-true u z is.0 in
      let inner = not-true (is_exit_at m v) is.1 in
      let off = not-true (r v u) is.3 in
      let room : old.g a t < rate m a t = omega (arith, old.arcs a t i in_time (inr (inner, inr off)), ltb-true (f a t) (rate m a t) is.4) in
      let more = one_added old.g a t in
      let g = λ (b s : ℕ). old.g b s + point a t b s in
      let nothing = λ (c : ℕ). ap {B = ℕ} (λ y. cond (y && leb u c) 1 0) inner in
      let new : Witness (with_pair r v u) v u = record {
        g = g;
        j = old.j;
        moves = go m z old.g g old.j a t i more room old.moves;
        arcs = λ b s c d x. omega (
          arith,
          w.arcs b s c d x,
          apart_arc (with_pair r v u) a t b s inner (old_in r v u (tail m a) t is.2) (pair_in r v u) x,
        );
        holds = w.holds;
        out = λ c s. omega (arith, gone_more m c old.g g a t i more, nothing c, old.out c s);
      } in
      (v, u, head_in m a valid i, in_time, off, grown_by r v u grown (head_in m a valid i) inner in_time new)

  leaving_back : (r : ℕ → ℕ → Bool) → Grown r → (a t : ℕ) → a < length m.arcs → t < z + 1 → returns_by r a t ≡ true → Larger r
  unfolding wider
  leaving_back r grown a t i l e =
      let v = tail m a in
      let u = arrival m a t in
      let is = and5 (leb u z) (not (is_exit_at m (head m a))) (r (head m a) u) (not (r v t)) (ltb 0 (f a t)) e in
      let old = grown.witness (head m a) u is.2 in
      let w = wider r v t (head m a) u old in
      let in_time = leb-true u z is.0 in
      let inner = not-true (is_exit_at m (head m a)) is.1 in
      let off = not-true (r v t) is.3 in
      let some : 0 < old.g a t = omega (arith, old.arcs a t i in_time (inr (inner, inl off)), ltb-true 0 (f a t) is.4) in
      let more = one_taken old.g a t some in
      let g = λ (b s : ℕ). old.g b s - point a t b s in
      let nothing = λ (c : ℕ). ap {B = ℕ} (λ y. cond (y && leb u c) 1 0) inner in
      let new : Witness (with_pair r v t) v t = record {
        g = g;
        j = old.j;
        moves = go_back m z old.g g old.j a t i more old.moves;
        arcs = λ b s c d x. omega (
          arith,
          w.arcs b s c d x,
          apart_arc (with_pair r v t) a t b s inner (pair_in r v t) (old_in r v t (head m a) u is.2) x,
        );
        holds = w.holds;
        out = λ c s. omega (arith, gone_more m c g old.g a t i more, nothing c, old.out c s);
      } in
      (v, t, tail_in m a valid i, omega (arith, l), off, grown_by r v t grown (tail_in m a valid i) (arc_is m a valid i).from_no_exit (omega (arith, l)) new)

  leaving_wait : (r : ℕ → ℕ → Bool) → Grown r → (n t : ℕ) → n < length m.nodes → t < z → waits_by r n t ≡ true → Larger r
  unfolding wider
  leaving_wait r grown n t i l e =
      let is = and3 (r n t) (not (r n (t + 1))) (ltb (h n t) (capacity m n)) e in
      let old = grown.witness n t is.0 in
      let w = wider r n (t + 1) n t old in
      let off = not-true (r n (t + 1)) is.1 in
      let room : old.j n t < capacity m n = omega (arith, old.holds n t l (inr off), ltb-true (h n t) (capacity m n) is.2) in
      let more = one_added old.j n t in
      let j = λ (b s : ℕ). old.j b s + point n t b s in
      let new : Witness (with_pair r n (t + 1)) n (t + 1) = record {
        g = old.g;
        j = j;
        moves = wait m z old.g old.j j n t more room old.moves;
        arcs = w.arcs;
        holds = λ b s d x. omega (
          arith,
          w.holds b s d x,
          apart_hold (with_pair r n (t + 1)) n t b s (old_in r n (t + 1) n t is.0) (pair_in r n (t + 1)) x,
        );
        out = old.out;
      } in
      (n, t + 1, i, omega (arith, l), off, grown_by r n (t + 1) grown i (grown.inside n t is.0).1 (omega (arith, l)) new)

  leaving_hurry : (r : ℕ → ℕ → Bool) → Grown r → (n t : ℕ) → n < length m.nodes → t < z → hurries_by r n t ≡ true → Larger r
  unfolding wider
  leaving_hurry r grown n t i l e =
      let is = and3 (r n (t + 1)) (not (r n t)) (ltb 0 (h n t)) e in
      let old = grown.witness n (t + 1) is.0 in
      let w = wider r n t n (t + 1) old in
      let off = not-true (r n t) is.1 in
      let some : 0 < old.j n t = omega (arith, old.holds n t l (inl off), ltb-true 0 (h n t) is.2) in
      let more = one_taken old.j n t some in
      let j = λ (b s : ℕ). old.j b s - point n t b s in
      let new : Witness (with_pair r n t) n t = record {
        g = old.g;
        j = j;
        moves = wait_back m z old.g old.j j n t more old.moves;
        arcs = w.arcs;
        holds = λ b s d x. omega (
          arith,
          w.holds b s d x,
          apart_hold (with_pair r n t) n t b s (pair_in r n t) (old_in r n t n (t + 1) is.0) x,
        );
        out = old.out;
      } in
      (n, t, i, omega (arith, l), off, grown_by r n t grown i (grown.inside n (t + 1) is.0).1 (omega (arith, l)) new)

  late_out : (e : Bool) (u c : ℕ) → c < u → ◌≡◌ {A = ℕ} (cond (e && leb u c) 1 0) 0
  late_out e u c l = grind (arith, nat_tests)

  starting_way : (r : ℕ → ℕ → Bool) → Grown r → (a t : ℕ) → a < length m.arcs → t < z + 1 → under_way_by r a t ≡ true → Larger r
  starting_way r grown a t i l e =
      let v = tail m a in
      let is = and3 (ltb z (arrival m a t)) (not (r v t)) (ltb 0 (f a t)) e in
      let late = ltb-true z (arrival m a t) is.0 in
      let off = not-true (r v t) is.1 in
      let more = one_taken f a t (ltb-true 0 (f a t) is.2) in
      let g = λ (b s : ℕ). f b s - point a t b s in
      let new : Witness (with_pair r v t) v t = record {
        g = g;
        j = h;
        moves = stay_back m z f g h a t i late more flow;
        arcs = λ b s c d x. omega (arith, off_pair a b t s (λ p q. omega (arith, late, d, ap₂ (arrival m) p q)));
        holds = λ b s d x. refl;
        out = λ c s. omega (arith, gone_more m c g f a t i more, late_out (is_exit_at m (head m a)) (arrival m a t) c (omega (arith, late, s, by_z)));
      } in
      (v, t, tail_in m a valid i, omega (arith, l), off, grown_by r v t grown (tail_in m a valid i) (arc_is m a valid i).from_no_exit (omega (arith, l)) new)

  starting_late : (r : ℕ → ℕ → Bool) → Grown r → (a t : ℕ) → a < length m.arcs → t < z + 1 → late_by r a t ≡ true → Larger r
  starting_late r grown a t i l e =
      let v = tail m a in
      let is = and5 (leb (arrival m a t) z) (is_exit_at m (head m a)) (ltb k (arrival m a t)) (not (r v t)) (ltb 0 (f a t)) e in
      let late = ltb-true k (arrival m a t) is.2 in
      let off = not-true (r v t) is.3 in
      let more = one_taken f a t (ltb-true 0 (f a t) is.4) in
      let g = λ (b s : ℕ). f b s - point a t b s in
      let new : Witness (with_pair r v t) v t = record {
        g = g;
        j = h;
        moves = come_back m z f g h a t i is.1 more flow;
        arcs = λ b s c d x. omega (arith, off_pair a b t s (clash b s is.1 late x));
        holds = λ b s d x. refl;
        out = λ c s. omega (arith, gone_more m c g f a t i more, late_out (is_exit_at m (head m a)) (arrival m a t) c (omega (arith, late, s)));
      } in
      (v, t, tail_in m a valid i, omega (arith, l), off, grown_by r v t grown (tail_in m a valid i) (arc_is m a valid i).from_no_exit (omega (arith, l)) new)
    where
      clash : (b s : ℕ) → is_exit_at m (head m a) ≡ true → k < arrival m a t → IsFixed (with_pair r (tail m a) t) b s → a ≡ b → t ≡ s → ⊥
      clash b s exit late (inl by) x y = omega (arith, late, by.1, ap₂ (arrival m) x y)
      clash b s exit late (inr inner) x y = both_ways (is_exit_at m (head m b)) inner.0 (sym (ap (λ c. is_exit_at m (head m c)) x) ∙ exit)

  starting_rest : (r : ℕ → ℕ → Bool) → Grown r → (n : ℕ) → n < length m.nodes → left_by r n ≡ true → Larger r
  starting_rest r grown n i e =
      let is = and3 (not (is_exit_at m n)) (not (r n z)) (ltb 0 (h n z)) e in
      let inner = not-true (is_exit_at m n) is.0 in
      let off = not-true (r n z) is.1 in
      let more = one_taken h n z (ltb-true 0 (h n z) is.2) in
      let j = λ (b s : ℕ). h b s - point n z b s in
      let new : Witness (with_pair r n z) n z = record {
        g = f;
        j = j;
        moves = end_here m z f h j n z refl more flow;
        arcs = λ b s c d x. refl;
        holds = λ b s d x. omega (arith, off_pair n b z s (λ p q. omega (arith, d, q)));
        out = λ c s. refl;
      } in
      (n, z, i, omega arith, off, grown_by r n z grown i inner (omega arith) new)

  -- ---- growing until nothing is left to do

  abbrev outside : (ℕ → ℕ → Bool) → ℕ
  outside r = sum2 (length m.nodes) (z + 1) (λ n t. cond (r n t) 0 1)

  fewer : (r : ℕ → ℕ → Bool) (n t : ℕ) → n < length m.nodes → t ≤ z → r n t ≡ false → outside (with_pair r n t) + 1 ≤ outside r
  fewer r n t i l off =
      let one = gather_one (λ _ _. true) 1 n t (length m.nodes) (z + 1) i in
      let within : ltb t (z + 1) ≡ true = lt-ltb t (z + 1) (omega (arith, l)) in
      omega (
        arith,
        one,
        ap {B = ℕ} (λ y. cond (y && true) 1 0) within,
        sum2-add (length m.nodes) (z + 1) (λ c s. cond (with_pair r n t c s) 0 1) (λ c s. cond true (cond (eqb n c && eqb t s) 1 0) 0),
        sum2-le (length m.nodes) (z + 1) (λ c s. cond (with_pair r n t c s) 0 1 + cond true (cond (eqb n c && eqb t s) 1 0) 0) (λ c s. cond (r c s) 0 1)
            (λ c s x y. at c s),
      )
    where
      parts : (b c : Bool) → (c ≡ true → b ≡ false) → cond (b || c) 0 1 + cond true (cond c 1 0) 0 ≤ cond b 0 1
      parts b c h = grind arith

      at : (c s : ℕ) → cond (with_pair r n t c s) 0 1 + cond true (cond (eqb n c && eqb t s) 1 0) 0 ≤ cond (r c s) 0 1
      at c s = parts (r c s) (eqb n c && eqb t s) (λ e. let pair = same_pair n c t s e in sym (ap₂ r pair.0 pair.1) ∙ off)

  abbrev Ended : Type 0
  Ended = Better ⊎ ((r : ℕ → ℕ → Bool) × Grown r × Closed r)

  abbrev Goes : (ℕ → ℕ → Bool) → Type 0
  Goes r = Larger r ⊎ (Better ⊎ Closed r)

  look : (r : ℕ → ℕ → Bool) → Grown r → Goes r
  look r grown = elim (found2 (exits_by r) (length m.arcs) (z + 1)) [
    | inl some ↦ inr (inl (leaving_exit r grown some.0 some.1 some.2 some.3 some.4))
    | inr no_exit ↦ elim (found2 (goes_by r) (length m.arcs) (z + 1)) [
      | inl some ↦ inl (leaving_arc r grown some.0 some.1 some.2 some.3 some.4)
      | inr no_arc ↦ elim (found2 (returns_by r) (length m.arcs) (z + 1)) [
        | inl some ↦ inl (leaving_back r grown some.0 some.1 some.2 some.3 some.4)
        | inr no_return ↦ elim (found2 (waits_by r) (length m.nodes) z) [
          | inl some ↦ inl (leaving_wait r grown some.0 some.1 some.2 some.3 some.4)
          | inr no_wait ↦ elim (found2 (hurries_by r) (length m.nodes) z) [
            | inl some ↦ inl (leaving_hurry r grown some.0 some.1 some.2 some.3 some.4)
            | inr no_hurry ↦ elim (found2 (under_way_by r) (length m.arcs) (z + 1)) [
              | inl some ↦ inl (starting_way r grown some.0 some.1 some.2 some.3 some.4)
              | inr no_way ↦ elim (found (left_by r) (length m.nodes)) [
                | inl some ↦ inl (starting_rest r grown some.0 some.1 some.2)
                | inr no_rest ↦ elim (found2 (late_by r) (length m.arcs) (z + 1)) [
                  | inl some ↦ inl (starting_late r grown some.0 some.1 some.2 some.3 some.4)
                  | inr no_late ↦ inr (inr (record {
                    no_exit = no_exit;
                    no_arc = no_arc;
                    no_return = no_return;
                    no_wait = no_wait;
                    no_hurry = no_hurry;
                    no_way = no_way;
                    no_rest = no_rest;
                    no_late = no_late;
                  }))
                ]
              ]
            ]
          ]
        ]
      ]
    ]
  ]

  grow : (fuel : ℕ) (r : ℕ → ℕ → Bool) → Grown r → outside r ≤ fuel → Ended
  grow zero r grown few = elim (look r grown) [
    | inr (inl better) ↦ inl better
    | inr (inr closed) ↦ inr (r, grown, closed)
    | inl more ↦ absurd (omega (arith, few, fewer r more.0 more.1 more.2 more.3 more.4))
  ]
  grow (suc fuel) r grown few = elim (look r grown) [
    | inr (inl better) ↦ inl better
    | inr (inr closed) ↦ inr (r, grown, closed)
    | inl more ↦ grow fuel (with_pair r more.0 more.1) more.5 (omega (arith, few, fewer r more.0 more.1 more.2 more.3 more.4))
  ]

  pub grow_up : Ended
  grow_up =
      let none : Grown (λ _ _. false) = record {
        inside = λ n t e. absurd (both_ways false refl e);
        witness = λ n t e. absurd (both_ways false refl e);
      } in
      grow (outside (λ _ _. false)) (λ _ _. false) none (omega arith)
