-- The items of one arc, and of one node's holds, among those of a cut.
use Rattle.std.proofs.Common.{◌≡◌, ℕ, zero, suc, ◌+◌, ◌<◌, ◌≤◌, Bool, true, false, cond, not, ◌&&◌, ◌||◌, eqb, leb, ltb, List, [], ◌∷◌, ◌++◌, length, get_or, map, refl, ap, ap₂, sym, ◌∙◌, arith, zero-add, ◌-◌, ◌⊎◌, inl, inr}
use Rattle.std.specs.List.{filter, flat_map, list_any}
use Rattle.std.proofs.lemmas.List.{ext_get_or, get_or-map, length-map}
use Rattle.std.proofs.lemmas.List.FromFn.{get_or-range_with_len, length-range_with_len}
use Rattle.std.proofs.lemmas.List.Folds.{list_any-append}
use Rattle.std.proofs.Math.Bool.{and-false, and-true}
use Rattle.std.proofs.lemmas.Bool.{and_left, le-ltb, lt-leb, lt-ltb}
use Rattle.std.proofs.lemmas.Bool.Decides.{eqb_tells, nat_tests}
use Rattle.evac_law.specs.declared.cut.CutItem.{CutItem}
use Rattle.evac_law.specs.declared.cut.CutItem.TheVariants.{Arc, Entry, Hold}
use Rattle.evac_law.specs.declared.model.Model.{Model}
use Rattle.evac_law.specs.Building.{capacity, entry, rate}
use Rattle.evac_law.specs.Certificates.{label_cut}
use Rattle.evac_law.specs.Cuts.{Cut, arc_items, arc_part, cut_items, entry_items, entry_part, hold_items, hold_part, leaves_cut}
use Rattle.evac_law.specs.LabelTable.{LabelTable}
use Rattle.evac_law.specs.Sums.{below, moments_to, places}
use Rattle.evac_law.proofs.PartLemmas.{any-below, or_false}
use Rattle.bottleneck_report.specs.Crossings.{arc_periods, hold_periods, is_of_arc, is_of_hold}
use Rattle.bottleneck_report.specs.Covers.{covers}
use Rattle.bottleneck_report.proofs.CoverLemmas.{any-none, any-same, any-short, filter-same}

any-flat_map : {X Y : Type 0} (p : Y → Bool) (f : X → List Y) (xs : List X) → list_any p (flat_map f xs) ≡ list_any (λ x. list_any p (f x)) xs
any-flat_map p f [] = refl
any-flat_map p f (x ∷ xs) = list_any-append p (f x) (flat_map f xs) ∙ ap (λ b. list_any p (f x) || b) (any-flat_map p f xs)

any-never : {X : Type 0} (p : X → Bool) (xs : List X) → ((x : X) → p x ≡ false) → list_any p xs ≡ false
any-never p [] h = refl
any-never p (x ∷ xs) h = ap₂ (λ a b. a || b) (h x) (any-never p xs h)

-- two lists of lists, none of which has such an item
none_nested : (p : CutItem → Bool) (h : ℕ → ℕ → List CutItem) (is js : List ℕ) → ((i j : ℕ) → list_any p (h i j) ≡ false)
    → list_any p (flat_map (λ i. flat_map (h i) js) is) ≡ false
none_nested p h is js e =
    any-flat_map p (λ i. flat_map (h i) js) is
    ∙ any-never _ is (λ i. any-flat_map p (h i) js ∙ any-never _ js (λ j. e i j))

-- one number picks the test at it
pick_test : (p : ℕ → Bool) (a n : ℕ) → list_any (λ i. p i && eqb i a) (below n) ≡ (ltb a n && p a)
pick_test p a zero = sym (ap (λ b. b && p a) (le-ltb a 0 (omega arith)))
pick_test p a (suc n) =
    any-below (λ i. p i && eqb i a) n ∙ ap (λ b. b || (p n && eqb n a)) (pick_test p a n) ∙ split (eqb_tells n a)
  where
    still : (n ≡ a → ⊥) → ltb a (suc n) ≡ ltb a n
    still e = grind (arith, nat_tests)

    split : ((eqb n a ≡ true) × (n ≡ a)) ⊎ ((eqb n a ≡ false) × (n ≡ a → ⊥)) → ((ltb a n && p a) || (p n && eqb n a)) ≡ (ltb a (suc n) && p a)
    split (inl (e, f)) = grind (arith, le-ltb, and-true, lt-ltb)
    split (inr (e, f)) = ap (λ y. (ltb a n && p a) || (p n && y)) e ∙ ap (λ b. (ltb a n && p a) || b) (and-false (p n)) ∙ or_false (ltb a n && p a) ∙ sym (ap (λ b. b && p a) (still f))

-- ---- arcs

module _ (m : Model) (x : Cut) (k a : ℕ) where
  no_entry : (b : Bool) (n p : ℕ) → list_any (is_of_arc a) (cond b [] (Entry n p ∷ [])) ≡ false
  no_entry true n p = refl
  no_entry false n p = refl

  no_hold : (b : Bool) (n t c : ℕ) → list_any (is_of_arc a) (cond b (Hold n t c ∷ []) []) ≡ false
  no_hold true n t c = refl
  no_hold false n t c = refl

  one_arc : (b : Bool) (i t r : ℕ) → list_any (is_of_arc a) (cond b (Arc i t r ∷ []) []) ≡ (b && eqb i a)
  one_arc true i t r = or_false (eqb i a)
  one_arc false i t r = refl

  pub any_arc : a < length m.arcs → list_any (is_of_arc a) (cut_items m x k) ≡ list_any (λ t. leaves_cut m x k t a) (moments_to k)
  unfolding cut_items
  any_arc l =
      list_any-append (is_of_arc a) (entry_items m x k) (hold_items m x k ++ arc_items m x k)
      ∙ ap₂ (λ u v. u || v)
      (none_nested (is_of_arc a) (entry_part m x) (places m.nodes) (moments_to k) (λ n t. no_entry (x n t || eqb (entry m n t) 0) n (entry m n t)))
      (list_any-append (is_of_arc a) (hold_items m x k) (arc_items m x k)
      ∙ ap₂ (λ u v. u || v)
      (none_nested (is_of_arc a) (hold_part m x) (places m.nodes) (below k) (λ n t. no_hold (x n t && not (x n (t + 1))) n t (capacity m n)))
      (any-flat_map (is_of_arc a) (λ t. flat_map (arc_part m x k t) (places m.arcs)) (moments_to k)
      ∙ any-same _ (λ t. leaves_cut m x k t a) (k + 1)
      (λ t h. any-flat_map (is_of_arc a) (arc_part m x k t) (places m.arcs)
      ∙ any-same _ (λ i. leaves_cut m x k t i && eqb i a) (length m.arcs) (λ i b. one_arc (leaves_cut m x k t i) i t (rate m i t))
      ∙ pick_test (λ i. leaves_cut m x k t i) a (length m.arcs)
      ∙ ap (λ b. b && leaves_cut m x k t a) (lt-ltb a (length m.arcs) l))))

-- nobody leaves the cut of a period after it
late_arc : (m : Model) (l : LabelTable) (k a t : ℕ) → k < t → leaves_cut m (label_cut m l k) k t a ≡ false
late_arc m l k a t h = outside (leb t k) _ _ (lt-leb t k h)
  where
    outside : (a b c : Bool) → a ≡ false → ((a && b) && c) ≡ false
    outside a b c e = grind arith

-- the periods in the spans of an arc are those that have it as an item
pub arc_counted : (m : Model) (l : LabelTable) (c a : ℕ) (ends : List ℕ) → a < length m.arcs → c ≤ m.horizon
    → ((k : ℕ) → k ≤ m.horizon → covers ends k ≡ list_any (λ t. leaves_cut m (label_cut m l k) k t a) (below (m.horizon + 1)))
    → length (filter (covers ends) (below c)) ≡ arc_periods m l c a
unfolding arc_periods
arc_counted m l c a ends in_arcs in_time h =
    filter-same (covers ends) (λ k. list_any (is_of_arc a) (cut_items m (label_cut m l k) k)) c
    (λ k b. h k (omega (arith, b, in_time)) ∙ shorter k (omega (arith, b, in_time)) ∙ sym (any_arc m (label_cut m l k) k a in_arcs))
  where
    shorter : (k : ℕ) → k ≤ m.horizon
        → list_any (λ t. leaves_cut m (label_cut m l k) k t a) (below (m.horizon + 1)) ≡ list_any (λ t. leaves_cut m (label_cut m l k) k t a) (moments_to k)
    shorter k e =
        let parts : m.horizon + 1 ≡ (k + 1) + (m.horizon - k) = omega (arith, e) in
        ap (λ n. list_any (λ t. leaves_cut m (label_cut m l k) k t a) (below n)) parts
        ∙ any-short (λ t. leaves_cut m (label_cut m l k) k t a) (k + 1) (m.horizon - k) (λ i b. late_arc m l k a i (omega (arith, b)))

-- ---- holds

abbrev pub is_held_out : Model → LabelTable → ℕ → ℕ → ℕ → Bool
is_held_out m l k n t = ltb t k && (label_cut m l k n t && not (label_cut m l k n (t + 1)))

module _ (m : Model) (x : Cut) (k n : ℕ) where
  no_entry_of : (b : Bool) (i p : ℕ) → list_any (is_of_hold n) (cond b [] (Entry i p ∷ [])) ≡ false
  no_entry_of true i p = refl
  no_entry_of false i p = refl

  no_arc_of : (b : Bool) (i t r : ℕ) → list_any (is_of_hold n) (cond b (Arc i t r ∷ []) []) ≡ false
  no_arc_of true i t r = refl
  no_arc_of false i t r = refl

  one_hold : (b : Bool) (i t c : ℕ) → list_any (is_of_hold n) (cond b (Hold i t c ∷ []) []) ≡ (b && eqb i n)
  one_hold true i t c = or_false (eqb i n)
  one_hold false i t c = refl

  any_swap : (p : ℕ → ℕ → Bool) (i j : ℕ) → list_any (λ a. list_any (λ b. p a b) (below j)) (below i) ≡ list_any (λ b. list_any (λ a. p a b) (below i)) (below j)
  any_swap p zero j = sym (any-none _ j (λ b h. refl))
  any_swap p (suc i) j = any-below (λ a. list_any (λ b. p a b) (below j)) i ∙ ap (λ z. z || list_any (λ b. p i b) (below j)) (any_swap p i j) ∙ merge j
    where
      four : (a b c d : Bool) → ((a || b) || (c || d)) ≡ ((a || c) || (b || d))
      four true b c d = refl
      four false true true d = refl
      four false true false d = refl
      four false false c d = ap (λ z. z || d) (sym (or_false c)) ∙ ap (λ z. z || d) (or_false c)

      merge : (j : ℕ) → (list_any (λ b. list_any (λ a. p a b) (below i)) (below j) || list_any (λ b. p i b) (below j)) ≡ list_any (λ b. list_any (λ a. p a b) (below (suc i))) (below j)
      merge zero = refl
      merge (suc j) =
          ap₂ (λ u v. u || v) (any-below (λ b. list_any (λ a. p a b) (below i)) j) (any-below (λ b. p i b) j)
          ∙ four (list_any (λ b. list_any (λ a. p a b) (below i)) (below j)) (list_any (λ a. p a j) (below i)) (list_any (λ b. p i b) (below j)) (p i j)
          ∙ ap₂ (λ u v. u || v) (merge j) (sym (any-below (λ a. p a j) i))
          ∙ sym (any-below (λ b. list_any (λ a. p a b) (below (suc i))) j)

  pub any_hold : n < length m.nodes → list_any (is_of_hold n) (cut_items m x k) ≡ list_any (λ t. x n t && not (x n (t + 1))) (below k)
  unfolding cut_items
  any_hold l =
      list_any-append (is_of_hold n) (entry_items m x k) (hold_items m x k ++ arc_items m x k)
      ∙ ap₂ (λ u v. u || v)
      (none_nested (is_of_hold n) (entry_part m x) (places m.nodes) (moments_to k) (λ i t. no_entry_of (x i t || eqb (entry m i t) 0) i (entry m i t)))
      (list_any-append (is_of_hold n) (hold_items m x k) (arc_items m x k)
      ∙ ap₂ (λ u v. u || v)
      (any-flat_map (is_of_hold n) (λ i. flat_map (hold_part m x i) (below k)) (places m.nodes)
      ∙ any-same _ (λ i. list_any (λ t. (x i t && not (x i (t + 1))) && eqb i n) (below k)) (length m.nodes)
      (λ i h. any-flat_map (is_of_hold n) (hold_part m x i) (below k) ∙ any-same _ _ k (λ t b. one_hold (x i t && not (x i (t + 1))) i t (capacity m i)))
      ∙ any_swap (λ i t. (x i t && not (x i (t + 1))) && eqb i n) (length m.nodes) k
      ∙ any-same _ (λ t. x n t && not (x n (t + 1))) k
      (λ t b. pick_test (λ i. x i t && not (x i (t + 1))) n (length m.nodes) ∙ ap (λ z. z && (x n t && not (x n (t + 1)))) (lt-ltb n (length m.nodes) l)))
      (none_nested (is_of_hold n) (arc_part m x k) (moments_to k) (places m.arcs) (λ t i. no_arc_of (leaves_cut m x k t i) i t (rate m i t)))
      ∙ or_false (list_any (λ t. x n t && not (x n (t + 1))) (below k)))

pub hold_counted : (m : Model) (l : LabelTable) (c n : ℕ) (ends : List ℕ) → n < length m.nodes → c ≤ m.horizon
    → ((k : ℕ) → k ≤ m.horizon → covers ends k ≡ list_any (is_held_out m l k n) (below m.horizon))
    → length (filter (covers ends) (below c)) ≡ hold_periods m l c n
unfolding hold_periods
hold_counted m l c n ends in_nodes in_time h =
    filter-same (covers ends) (λ k. list_any (is_of_hold n) (cut_items m (label_cut m l k) k)) c
    (λ k b. h k (omega (arith, b, in_time)) ∙ shorter k (omega (arith, b, in_time)) ∙ sym (any_hold m (label_cut m l k) k n in_nodes))
  where
    within : (i j : ℕ) (b : Bool) → i < j → (ltb i j && b) ≡ b
    within i j b e = grind (arith, nat_tests)

    shorter : (k : ℕ) → k ≤ m.horizon
        → list_any (is_held_out m l k n) (below m.horizon) ≡ list_any (λ t. label_cut m l k n t && not (label_cut m l k n (t + 1))) (below k)
    shorter k e =
        let parts : m.horizon ≡ k + (m.horizon - k) = omega (arith, e) in
        ap (λ i. list_any (is_held_out m l k n) (below i)) parts
        ∙ any-short (is_held_out m l k n) k (m.horizon - k) (λ i b. and_left (ltb i k) _ (le-ltb i k b))
        ∙ any-same (is_held_out m l k n) (λ t. label_cut m l k n t && not (label_cut m l k n (t + 1))) k (λ t b. within t k _ b)

-- ---- lists of numbers

pub numbers_are : (f : ℕ → ℕ) (n : ℕ) (xs : List ℕ) → length xs ≡ n → ((i : ℕ) → i < n → get_or xs i 0 ≡ f i) → xs ≡ map f (below n)
numbers_are f n xs e h =
    let long : length (map f (below n)) ≡ n = length-map (below n) f ∙ length-range_with_len 0 n in
    ext_get_or 0 xs (map f (below n)) (e ∙ sym long)
    (λ i l. let b : i < n = omega (arith, l, e) in
    h i b ∙ sym (get_or-map f (below n) i 0 0 (omega (arith, b, length-range_with_len 0 n)) ∙ ap f (get_or-range_with_len 0 n i 0 b ∙ zero-add i)))
