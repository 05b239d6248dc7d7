-- The last moment that passes a test.
use Rattle.std.proofs.Common.{◌≡◌, ℕ, zero, suc, ◌+◌, ◌<◌, inl, inr, Bool, true, false, cond, ◌&&◌, ◌||◌, eqb, ltb, List, [], ◌∷◌, ◌++◌, length, get_or, map, refl, ap, ap₂, sym, ◌∙◌, arith, add-one, zero-add, Option, Some, None, pos, ◌+ℤ◌}
use Rattle.std.proofs.Math.ListN.{set}
use Rattle.std.specs.List.{sum_by, list_any, All}
use Rattle.std.proofs.Math.Bool.{or_assoc}
use borrow.Author.Count.{below_more}
use Rattle.std.proofs.lemmas.Bool.{cases_eq, eq-eqb}
use Rattle.std.proofs.lemmas.Grind.{get_or-set_at}
use Rattle.std.proofs.lemmas.Bool.Decides.{nat_tests}
use Rattle.std.proofs.lemmas.List.{ext_get_or, get_or-map, get_or-set_other, get_or-set_same, length-map}
use Rattle.std.proofs.lemmas.List.FromFn.{get_or-range_with_len, length-range_with_len}
use Rattle.evac_law.specs.declared.model.Model.{Model}
use Rattle.evac_law.specs.declared.plan.Move.{Move}
use Rattle.evac_law.specs.Building.{IsValid, is_exit_at, tail}
use Rattle.evac_law.specs.Plans.{IsFeasible, above, held, leaving, moved}
use Rattle.evac_law.specs.Stands.{Fits, Stand}
use Rattle.evac_law.specs.Sums.{below, places}
use Rattle.evac_law.proofs.SumLemmas.{by_place, sum_below-suc}
use Rattle.evac_law.proofs.PartLemmas.{any-below, or_false}
use Rattle.evac_law.proofs.ValidLemmas.{arc_is}
use Rattle.clearing_report.specs.Clearing.{is_occupied, last_inside, last_occupied, last_that, later, latest}
use Rattle.clearing_report.proofs.TimeLemmas.{none_some, same_some}

-- ---- the last moment below a bound

unfoldable pub last_below : (ℕ → Bool) → ℕ → Option ℕ
last_below test zero = None
last_below test (suc n) = cond (test n) (Some n) (last_below test n)

pub last_below-more : (test : ℕ → Bool) (n : ℕ) → last_below test (n + 1) ≡ cond (test n) (Some n) (last_below test n)
unfolding last_below
last_below-more test n = ap (last_below test) (add-one n)

pub last_that_is : (test : ℕ → Bool) (t : ℕ) → last_that test t ≡ last_below test (t + 1)
unfolding last_that last_below
last_that_is test zero = refl
last_that_is test (suc t) = ap (λ z. cond (test (suc t)) (Some (suc t)) z) (last_that_is test t ∙ ap (last_below test) (add-one t)) ∙ sym (ap (last_below test) (add-one (suc t)))

pub last_none : (test : ℕ → Bool) → last_below test 0 ≡ None
unfolding last_below
last_none test = refl

pub ruleset last_steps = (last_below-more, last_that_is, last_none)

last_same : (p q : ℕ → Bool) (n : ℕ) → ((t : ℕ) → t < n → p t ≡ q t) → last_below p n ≡ last_below q n
unfolding last_below
last_same p q zero h = refl
last_same p q (suc n) h =
    ap (λ b. cond b (Some n) (last_below p n)) (h n (omega arith)) ∙ ap (λ z. cond (q n) (Some n) z) (last_same p q n (λ t l. h t (omega (arith, l))))

last_bound : (p : ℕ → Bool) (n s : ℕ) → last_below p n ≡ Some s → s < n
unfolding last_below
last_bound p zero s e = absurd (none_some s e)
last_bound p (suc n) s e = split (p n) refl (λ f. last_bound p n s f) e
  where
    split : (b : Bool) → p n ≡ b → (last_below p n ≡ Some s → s < n) → cond b (Some n) (last_below p n) ≡ Some s → s < suc n
    split true f h g = omega (arith, same_some n s g)
    split false f h g = omega (arith, h g)

later_none : (a : Option ℕ) → later a None ≡ a
later_none None = refl
later_none (Some s) = refl

later_top : (n : ℕ) (a : Option ℕ) → ((s : ℕ) → a ≡ Some s → s < n) → later (Some n) a ≡ Some n
later_top n None h = refl
later_top n (Some s) h = ap (λ z. Some z) (omega (arith, h s refl))

later_under : (n : ℕ) (a : Option ℕ) → ((s : ℕ) → a ≡ Some s → s < n) → later a (Some n) ≡ Some n
later_under n None h = refl
later_under n (Some s) h = ap (λ z. Some z) (omega (arith, h s refl))

pub last_or : (p q : ℕ → Bool) (n : ℕ) → last_below (λ t. p t || q t) n ≡ later (last_below p n) (last_below q n)
unfolding last_below
last_or p q zero = refl
last_or p q (suc n) = split (p n) (q n) refl refl (last_or p q n)
  where
    split : (x y : Bool) → p n ≡ x → q n ≡ y → last_below (λ t. p t || q t) n ≡ later (last_below p n) (last_below q n)
        → cond (x || y) (Some n) (last_below (λ t. p t || q t) n) ≡ later (cond x (Some n) (last_below p n)) (cond y (Some n) (last_below q n))
    split true true e f h = ap (λ z. Some z) (omega arith)
    split true false e f h = sym (later_top n (last_below q n) (λ s g. last_bound q n s g))
    split false true e f h = sym (later_under n (last_below p n) (λ s g. last_bound p n s g))
    split false false e f h = h

-- ---- the latest of some

later_assoc : (a b c : Option ℕ) → later (later a b) c ≡ later a (later b c)
later_assoc None b c = refl
later_assoc (Some a) None c = refl
later_assoc (Some a) (Some b) None = refl
later_assoc (Some a) (Some b) (Some c) = ap (λ z. Some z) (omega arith)

pub latest_push : (last : ℕ → Option ℕ) (nodes : List ℕ) (n : ℕ) → latest last (nodes ++ n ∷ []) ≡ later (latest last nodes) (last n)
unfolding latest
latest_push last [] n = later_none (last n)
latest_push last (x ∷ xs) n = ap (later (last x)) (latest_push last xs n) ∙ sym (later_assoc (last x) (latest last xs) (last n))

pub latest_none : (last : ℕ → Option ℕ) → latest last [] ≡ None
unfolding latest
latest_none last = refl

-- ---- who is in a node

-- whether somebody enters one of the first arcs from a node
abbrev pub moved_from : Model → List Move → ℕ → ℕ → ℕ → Bool
moved_from m p i n t = list_any (λ a. eqb (tail m a) n && ltb 0 (moved p a t)) (below i)

moved_from-more : (m : Model) (p : List Move) (i n t : ℕ) → moved_from m p (i + 1) n t ≡ (moved_from m p i n t || (eqb (tail m i) n && ltb 0 (moved p i t)))
moved_from-more m p i n t = grind (arith, add-one, any-below)

test_sum : (m : Model) (p : List Move) (n t i : ℕ) → ltb 0 (sum_by (λ a. cond (eqb (tail m a) n) (moved p a t) 0) (below i)) ≡ moved_from m p i n t
test_sum m p n t zero = grind (arith, nat_tests)
test_sum m p n t (suc i) =
    ap (ltb 0) (sum_below-suc (λ a. cond (eqb (tail m a) n) (moved p a t) 0) i)
    ∙ some_part (sum_by (λ a. cond (eqb (tail m a) n) (moved p a t) 0) (below i)) (eqb (tail m i) n) (moved p i t)
    ∙ ap (λ b. b || (eqb (tail m i) n && ltb 0 (moved p i t))) (test_sum m p n t i)
    ∙ sym (any-below (λ a. eqb (tail m a) n && ltb 0 (moved p a t)) i)
  where
    some_part : (x : ℕ) (b : Bool) (y : ℕ) → ltb 0 (x + cond b y 0) ≡ (ltb 0 x || (b && ltb 0 y))
    some_part x b y = grind (arith, nat_tests)

leaving_is : (m : Model) (p : List Move) (n t : ℕ) → All (λ (v : Move). v.arc < length m.arcs) p
    → leaving m p n t ≡ sum_by (λ a. cond (eqb (tail m a) n) (moved p a t) 0) (places m.arcs)
unfolding leaving moved
leaving_is m p n t h = sym (by_place (λ a. eqb (tail m a) n) (λ (v : Move). v.arc) (λ v. v.people) (λ a v. eqb v.moment t) (length m.arcs) p h)

occupied_is : (m : Model) (p : List Move) (n t c : ℕ) → All (λ (v : Move). v.arc < length m.arcs) p → pos c ≡ held m p n t
    → is_occupied m p n t ≡ (ltb 0 c || moved_from m p (length m.arcs) n t)
occupied_is m p n t c h e =
    ap (λ z. ltb 0 (above (z +ℤ pos (leaving m p n t)) 0)) (sym e)
    ∙ both c (leaving m p n t)
    ∙ ap (λ b. ltb 0 c || b) (ap (ltb 0) (leaving_is m p n t h) ∙ test_sum m p n t (length m.arcs))
  where
    both : (x y : ℕ) → ltb 0 (above (pos x +ℤ pos y) 0) ≡ (ltb 0 x || ltb 0 y)
    both x y = grind (arith, nat_tests)

-- ---- the moments of all nodes

-- by the contents, and by the first arcs
abbrev pub moment_by : Model → Stand → ℕ → ℕ → Option ℕ
moment_by m f i n = cond (is_exit_at m n) None (last_below (λ t. ltb 0 (f.contents n t) || moved_from m f.plan i n t) (m.horizon + 1))

pub moments_first : (m : Model) (f : Stand) (n : ℕ) → cond (is_exit_at m n) None (last_that (λ t. ltb 0 (f.contents n t)) m.horizon) ≡ moment_by m f 0 n
moments_first m f n =
    ap (λ z. cond (is_exit_at m n) None z)
    (last_that_is (λ t. ltb 0 (f.contents n t)) m.horizon
    ∙ last_same (λ t. ltb 0 (f.contents n t)) (λ t. ltb 0 (f.contents n t) || moved_from m f.plan 0 n t) (m.horizon + 1) (λ t l. sym (or_false (ltb 0 (f.contents n t)))))

-- one arc more changes its tail alone
pub moments_other : (m : Model) (f : Stand) (i n : ℕ) → (n ≡ tail m i → ⊥) → moment_by m f (i + 1) n ≡ moment_by m f i n
moments_other m f i n d =
    ap (λ z. cond (is_exit_at m n) None z)
    (last_same (λ t. ltb 0 (f.contents n t) || moved_from m f.plan (i + 1) n t) (λ t. ltb 0 (f.contents n t) || moved_from m f.plan i n t) (m.horizon + 1)
    (λ t l. ap (λ b. ltb 0 (f.contents n t) || b)
    (moved_from-more m f.plan i n t
    ∙ ap (λ b. moved_from m f.plan i n t || (b && ltb 0 (moved f.plan i t))) (other (tail m i) n (λ e. d (sym e)))
    ∙ or_false (moved_from m f.plan i n t))))
  where
    other : (x y : ℕ) → (x ≡ y → ⊥) → eqb x y ≡ false
    other x y e = grind (arith, nat_tests)

pub moments_here : (m : Model) (f : Stand) (i n : ℕ) → n ≡ tail m i → is_exit_at m n ≡ false
    → later (moment_by m f i n) (last_that (λ t. ltb 0 (moved f.plan i t)) m.horizon) ≡ moment_by m f (i + 1) n
moments_here m f i n e x =
    let old = λ (t : ℕ). ltb 0 (f.contents n t) || moved_from m f.plan i n t in
    let new = λ (t : ℕ). ltb 0 (f.contents n t) || moved_from m f.plan (i + 1) n t in
    let arc = λ (t : ℕ). ltb 0 (moved f.plan i t) in
    ap₂ (λ b z. later (cond b None (last_below old (m.horizon + 1))) z) x (last_that_is arc m.horizon)
    ∙ sym (last_or old arc (m.horizon + 1))
    ∙ last_same (λ t. old t || arc t) new (m.horizon + 1)
    (λ t l. sym (
    ap (λ b. ltb 0 (f.contents n t) || b)
    (moved_from-more m f.plan i n t ∙ ap (λ b. moved_from m f.plan i n t || (b && ltb 0 (moved f.plan i t))) (eq-eqb (tail m i) n (sym e)))
    ∙ sym (or_assoc (ltb 0 (f.contents n t)) (moved_from m f.plan i n t) (arc t))))
    ∙ sym (ap (λ b. cond b None (last_below new (m.horizon + 1))) x)

pub moments_last : (m : Model) (f : Stand) (n : ℕ) → Fits m f → IsFeasible m f.plan m.horizon → n < length m.nodes
    → moment_by m f (length m.arcs) n ≡ last_inside m f.plan n
moments_last m f n fits feasible l = split (is_exit_at m n) refl
  where
    split : (b : Bool) → is_exit_at m n ≡ b
        → cond b None (last_below (λ t. ltb 0 (f.contents n t) || moved_from m f.plan (length m.arcs) n t) (m.horizon + 1)) ≡ cond b None (last_occupied m f.plan n)
    split true e = refl
    split false e =
        last_same (λ t. ltb 0 (f.contents n t) || moved_from m f.plan (length m.arcs) n t) (is_occupied m f.plan n) (m.horizon + 1)
        (λ t h. sym (occupied_is m f.plan n t (f.contents n t) feasible.arcs
        (fits.inside n t (omega (arith, l, fits.nodes_same)) (omega (arith, h, fits.horizon_same)) e)))
        ∙ sym (last_that_is (is_occupied m f.plan n) m.horizon)

pub moments_are : (g : ℕ → Option ℕ) (n : ℕ) (xs : List (Option ℕ)) → length xs ≡ n → ((i : ℕ) → i < n → get_or xs i None ≡ g i) → xs ≡ map g (below n)
moments_are g n xs e h =
    let long : length (map g (below n)) ≡ n = length-map (below n) g ∙ length-range_with_len 0 n in
    ext_get_or None xs (map g (below n)) (e ∙ sym long)
    (λ i l. let b : i < n = omega (arith, l, e) in
    h i b ∙ sym (get_or-map g (below n) i 0 None (omega (arith, b, length-range_with_len 0 n)) ∙ ap g (get_or-range_with_len 0 n i 0 b ∙ zero-add i)))

-- one node's moment is another
pub moment_put : (m : Model) (f : Stand) (i : ℕ) (xs : List (Option ℕ)) → IsValid m → i < length m.arcs → length xs ≡ length m.nodes
    → ((n : ℕ) → n < length m.nodes → get_or xs n None ≡ moment_by m f i n)
    → (n : ℕ) → n < length m.nodes
    → get_or (set xs (tail m i) (later (get_or xs (tail m i) None) (last_that (λ t. ltb 0 (moved f.plan i t)) m.horizon))) n None ≡ moment_by m f (i + 1) n
moment_put m f i xs valid l size h n k = elim (cases_eq n (tail m i)) [
  | inl same ↦
      let arc = arc_is m i valid l in
      get_or-set_at xs (tail m i) n _ None same (omega (arith, size, arc.from_in))
      ∙ ap (λ z. later z (last_that (λ t. ltb 0 (moved f.plan i t)) m.horizon)) (h (tail m i) arc.from_in)
      ∙ moments_here m f i (tail m i) refl arc.from_no_exit
      ∙ ap (moment_by m f (i + 1)) (sym same)
  | inr other ↦ get_or-set_other xs (tail m i) n _ None other ∙ h n k ∙ sym (moments_other m f i n other)
]

-- one more of a list
pub put_next : (g : ℕ → Option ℕ) (xs : List (Option ℕ)) (i : ℕ) (y : Option ℕ) → i < length xs → y ≡ g i → ((n : ℕ) → n < i → get_or xs n None ≡ g n)
    → (n : ℕ) → n < i + 1 → get_or (set xs i y) n None ≡ g n
put_next g xs i y l e h = grind (arith, below_more, set, get_or-set_other, get_or-set_same)
