-- What doors into exits bring together: the pairs of both of two cuts, and of one or the other, are two cuts again.
use Rattle.std.proofs.Common.{◌≡◌, ℕ, ◌+◌, ◌<◌, ◌≤◌, Bool, true, false, cond, not, ◌&&◌, ◌||◌, eqb, leb, List, ◌∷◌, length, refl, ap, sym, ◌∙◌, arith}
use Rattle.evac_law.specs.declared.model.Model.{Model}
use Rattle.evac_law.specs.Building.{arrival, capacity, entry, head, is_exit_at, rate, tail}
use Rattle.evac_law.specs.Cuts.{Cut, cut_value, leaves_cut}
use Rattle.evac_law.proofs.SumLemmas.{sum2, sum2-add, sum2-le, sum2-same_in}
use Rattle.evac_law.proofs.WeakDuality.{out_le_value}
use Rattle.building_laws.specs.Doors.{DifferAtDoors, DoorsAreSubstitutes, KeepsOpen, is_among}
use Rattle.building_laws.proofs.Duality.{cut_of}
use Rattle.building_laws.proofs.Values.{value_over}

-- ---- the value of a cut at other rates

module _ (m : Model) (x : Cut) (k : ℕ) where
  -- the entries outside the cut, the holds that leave it, and the arcs that leave it at given rates
  abbrev entries_of : Model → ℕ
  entries_of s = sum2 (length m.nodes) (k + 1) (λ n t. cond (x n t || eqb (entry s n t) 0) 0 (entry s n t))

  abbrev holds_of : Model → ℕ
  holds_of s = sum2 (length m.nodes) k (λ n t. cond (x n t && not (x n (t + 1))) (capacity s n) 0)

  abbrev arcs_of : (ℕ → ℕ → ℕ) → ℕ
  arcs_of r = sum2 (k + 1) (length m.arcs) (λ t a. cond (leaves_cut m x k t a) (r a t) 0)

  abbrev pub value_at : (ℕ → ℕ → ℕ) → ℕ
  value_at r = entries_of m + (holds_of m + arcs_of r)

module _ (m s : Model) (d : DifferAtDoors m s) where
  leaves_same : (x : Cut) (k t a : ℕ) → leaves_cut s x k t a ≡ leaves_cut m x k t a
  leaves_same x k t a = grind (arith, d.shape.tails, d.shape.heads, d.shape.exits, d.travels)

  -- a cut of the second model, by the first and the rates that the second has
  value_of : (x : Cut) (k : ℕ) (r : ℕ → ℕ → ℕ) → k ≤ m.horizon → ((a t : ℕ) → a < length m.arcs → t ≤ m.horizon → rate s a t ≡ r a t)
      → cut_value s x k ≡ value_at m x k r
  value_of x k r l rates =
      omega (
        arith,
        value_over m s x k d.shape.places d.shape.arcs,
        sum2-same_in (length m.nodes) (k + 1) (λ n t. cond (x n t || eqb (entry s n t) 0) 0 (entry s n t))
            (λ n t. cond (x n t || eqb (entry m n t) 0) 0 (entry m n t))
            (λ n t _ _. ap (λ e. cond (x n t || eqb e 0) 0 e) (sym (d.entries n t))),
        sum2-same_in (length m.nodes) k (λ n t. cond (x n t && not (x n (t + 1))) (capacity s n) 0)
            (λ n t. cond (x n t && not (x n (t + 1))) (capacity m n) 0)
            (λ n t _ _. ap (λ c. cond (x n t && not (x n (t + 1))) c 0) (sym (d.capacities n))),
        sum2-same_in (k + 1) (length m.arcs) (λ t a. cond (leaves_cut s x k t a) (rate s a t) 0)
            (λ t a. cond (leaves_cut m x k t a) (r a t) 0)
            (λ t a i j. ap (λ b. cond b (rate s a t) 0) (leaves_same x k t a)
            ∙ ap (λ w. cond (leaves_cut m x k t a) w 0) (rates a t j (omega (arith, i, l)))),
      )

same_at_doors : (m : Model) → DifferAtDoors m m
same_at_doors m = record {
  shape = record { places = refl; exits = λ n. refl; arcs = refl; tails = λ a. refl; heads = λ a. refl };
  horizon = refl;
  travels = λ a. refl;
  entries = λ n t. refl;
  capacities = λ n. refl;
  inner = λ a t _ _ _. refl;
}

-- ---- two cuts

-- the pairs of both cuts, and of one or the other
abbrev pub meet : Cut → Cut → Cut
meet x y n t = x n t && y n t

abbrev pub join : Cut → Cut → Cut
join x y n t = x n t || y n t

pair_le : (n k : ℕ) (a b c d : ℕ → ℕ → ℕ) → ((i j : ℕ) → i < n → j < k → a i j + b i j ≤ c i j + d i j)
    → sum2 n k a + sum2 n k b ≤ sum2 n k c + sum2 n k d
pair_le n k a b c d h = grind (arith, sum2-le, sum2-add)

entry_pair : (x y z : Bool) (p : ℕ) → cond ((x && y) || z) 0 p + cond ((x || y) || z) 0 p ≤ cond (x || z) 0 p + cond (y || z) 0 p
entry_pair x y z p = grind arith

hold_pair : (x y u v : Bool) (c : ℕ)
    → cond ((x && y) && not (u && v)) c 0 + cond ((x || y) && not (u || v)) c 0 ≤ cond (x && not u) c 0 + cond (y && not v) c 0
hold_pair x y u v c = grind arith

inner_pair : (i x y u v : Bool) (r : ℕ)
    → cond ((x && y) && (i && not (u && v))) r 0 + cond ((x || y) && (i && not (u || v))) r 0
    ≤ cond (x && (i && not u)) r 0 + cond (y && (i && not v)) r 0
inner_pair i x y u v r = grind arith

exit_pair : (i x y : Bool) (r s w b : ℕ) → b ≤ s → b ≤ w → r + b ≤ s + w
    → cond ((x && y) && (i && true)) r 0 + cond ((x || y) && (i && true)) b 0 ≤ cond (x && (i && true)) s 0 + cond (y && (i && true)) w 0
exit_pair i x y r s w b h j k = grind arith

-- the rates of four models up to a moment: they agree but on arcs into exits, and there the first and the last are together at most the two others
record AreFour (m : Model) (h : ℕ) (r s w b : ℕ → ℕ → ℕ) : Type 0 where
  pub inner : (a t : ℕ) → a < length m.arcs → t ≤ h → is_exit_at m (head m a) ≡ false → (r a t ≡ s a t) × (s a t ≡ w a t) × (w a t ≡ b a t)
  pub less : (a t : ℕ) → a < length m.arcs → t ≤ h → (b a t ≤ s a t) × (b a t ≤ w a t)
  pub least : (a t : ℕ) → a < length m.arcs → t ≤ h → r a t + b a t ≤ s a t + w a t

arc_pair : (exit i x y u v : Bool) (r s w b : ℕ) → (exit ≡ false → (r ≡ s) × (s ≡ w) × (w ≡ b)) → b ≤ s → b ≤ w → r + b ≤ s + w
    → cond ((x && y) && (i && (exit || not (u && v)))) r 0 + cond ((x || y) && (i && (exit || not (u || v)))) b 0
    ≤ cond (x && (i && (exit || not u))) s 0 + cond (y && (i && (exit || not v))) w 0
arc_pair true i x y u v r s w b e f g h = exit_pair i x y r s w b f g h
arc_pair false i x y u v r s w b e f g h = grind (arith, inner_pair)

meet_join : (m : Model) (x y : Cut) (k h : ℕ) (r s w b : ℕ → ℕ → ℕ) → k ≤ h → AreFour m h r s w b
    → value_at m (meet x y) k r + value_at m (join x y) k b ≤ value_at m x k s + value_at m y k w
meet_join m x y k h r s w b l four =
    omega (
      arith,
      pair_le (length m.nodes) (k + 1) (λ n t. cond (meet x y n t || eqb (entry m n t) 0) 0 (entry m n t))
          (λ n t. cond (join x y n t || eqb (entry m n t) 0) 0 (entry m n t))
          (λ n t. cond (x n t || eqb (entry m n t) 0) 0 (entry m n t))
          (λ n t. cond (y n t || eqb (entry m n t) 0) 0 (entry m n t))
          (λ n t i j. entry_pair (x n t) (y n t) (eqb (entry m n t) 0) (entry m n t)),
      pair_le (length m.nodes) k (λ n t. cond (meet x y n t && not (meet x y n (t + 1))) (capacity m n) 0)
          (λ n t. cond (join x y n t && not (join x y n (t + 1))) (capacity m n) 0)
          (λ n t. cond (x n t && not (x n (t + 1))) (capacity m n) 0)
          (λ n t. cond (y n t && not (y n (t + 1))) (capacity m n) 0)
          (λ n t i j. hold_pair (x n t) (y n t) (x n (t + 1)) (y n (t + 1)) (capacity m n)),
      pair_le (k + 1) (length m.arcs) (λ t a. cond (leaves_cut m (meet x y) k t a) (r a t) 0)
          (λ t a. cond (leaves_cut m (join x y) k t a) (b a t) 0)
          (λ t a. cond (leaves_cut m x k t a) (s a t) 0)
          (λ t a. cond (leaves_cut m y k t a) (w a t) 0)
          (λ t a i j. arc_pair (is_exit_at m (head m a)) (leb (arrival m a t) k) (x (tail m a) t) (y (tail m a) t)
          (x (head m a) (arrival m a t)) (y (head m a) (arrival m a t)) (r a t) (s a t) (w a t) (b a t)
          (four.inner a t j (omega (arith, i, l))) (four.less a t j (omega (arith, i, l))).0 (four.less a t j (omega (arith, i, l))).1
          (four.least a t j (omega (arith, i, l)))),
    )

pub doors_are_substitutes : DoorsAreSubstitutes
doors_are_substitutes both one other neither valid_both valid_one valid_other valid_neither d p q u v k l feasible within best_one best_other =
    let x = cut_of one u k valid_one (omega (arith, l, d.at_one.horizon)) best_one in
    let y = cut_of other v k valid_other (omega (arith, l, d.at_other.horizon)) best_other in
    omega (
      arith,
      out_le_value both (meet x.0 y.0) p k valid_both feasible,
      out_le_value neither (join x.0 y.0) q k valid_neither within,
      value_of both both (same_at_doors both) (meet x.0 y.0) k (rate both) l (λ a t _ _. refl),
      value_of both neither d.at_neither (join x.0 y.0) k (rate neither) l (λ a t _ _. refl),
      value_of both one d.at_one x.0 k (rate one) l (λ a t _ _. refl),
      value_of both other d.at_other y.0 k (rate other) l (λ a t _ _. refl),
      meet_join both x.0 y.0 k both.horizon (rate both) (rate one) (rate other) (rate neither) l four,
      x.1,
      y.1,
    )
  where
    four : AreFour both both.horizon (rate both) (rate one) (rate other) (rate neither)
    four = record {
      inner = λ a t i s e. (
        d.at_one.inner a t i s e,
        sym (d.at_one.inner a t i s e) ∙ d.at_other.inner a t i s e,
        sym (d.at_other.inner a t i s e) ∙ d.at_neither.inner a t i s e,
      );
      less = λ a t i s. (d.one_grows a t i s, d.other_grows a t i s);
      least = d.both_grow;
    }

-- ---- exits that are kept open

module _ (m : Model) where
  -- the rates where just those exits are open that a test keeps
  abbrev pub kept_rate : (ℕ → Bool) → ℕ → ℕ → ℕ
  kept_rate kept a t = cond (is_exit_at m (head m a) && not (kept (head m a))) 0 (rate m a t)

  abbrev pub kept_value : (ℕ → Bool) → Cut → ℕ → ℕ
  kept_value kept x k = value_at m x k (kept_rate kept)

  pub kept_is : (s : Model) (kept : ℕ → Bool) (x : Cut) (k : ℕ) → KeepsOpen m s kept → k ≤ m.horizon → cut_value s x k ≡ kept_value kept x k
  kept_is s kept x k d l = value_of m s d.at_doors x k (kept_rate kept) l rates
    where
      kept_part : (exit keeps : Bool) (r w : ℕ) → (exit ≡ true → r ≡ cond keeps w 0) → (exit ≡ false → w ≡ r) → r ≡ cond (exit && not keeps) 0 w
      kept_part exit keeps r w at_exit inner = grind arith

      rates : (a t : ℕ) → a < length m.arcs → t ≤ m.horizon → rate s a t ≡ kept_rate kept a t
      rates a t i j =
          kept_part (is_exit_at m (head m a)) (kept (head m a)) (rate s a t) (rate m a t) (d.rates a t i j) (d.at_doors.inner a t i j)

  pub all_kept : (x : Cut) (k : ℕ) → k ≤ m.horizon → cut_value m x k ≡ kept_value (λ _. true) x k
  all_kept x k l = value_of m m (same_at_doors m) x k (kept_rate (λ _. true)) l (λ a t _ _. none (is_exit_at m (head m a)) (rate m a t))
    where
      none : (exit : Bool) (w : ℕ) → w ≡ cond (exit && not true) 0 w
      none exit w = grind arith

  -- who keeps no fewer exits open has no smaller cuts
  pub kept_grows : (few more : ℕ → Bool) (x : Cut) (k : ℕ) → ((n : ℕ) → few n ≡ true → more n ≡ true) → kept_value few x k ≤ kept_value more x k
  kept_grows few more x k h =
      omega (
        arith,
        sum2-le (k + 1) (length m.arcs) (λ t a. cond (leaves_cut m x k t a) (kept_rate few a t) 0)
            (λ t a. cond (leaves_cut m x k t a) (kept_rate more a t) 0)
            (λ t a _ _. grown (leaves_cut m x k t a) (is_exit_at m (head m a)) (few (head m a)) (more (head m a)) (rate m a t) (h (head m a))),
      )
    where
      grown : (b exit f g : Bool) (w : ℕ) → (f ≡ true → g ≡ true) → cond b (cond (exit && not f) 0 w) 0 ≤ cond b (cond (exit && not g) 0 w) 0
      grown b exit f g w h = grind arith

  -- what is open in the first model is open in one of two others, and what is open in the last is open in both
  pub record AreFourKept (both one other neither : ℕ → Bool) : Type 0 where
    pub in_one : (n : ℕ) → both n ≡ true → (one n || other n) ≡ true
    pub one_more : (n : ℕ) → neither n ≡ true → one n ≡ true
    pub other_more : (n : ℕ) → neither n ≡ true → other n ≡ true

  four_part : (exit p q r u : Bool) (w : ℕ) → (p ≡ true → (q || r) ≡ true) → (u ≡ true → q ≡ true) → (u ≡ true → r ≡ true)
      → cond (exit && not p) 0 w + cond (exit && not u) 0 w ≤ cond (exit && not q) 0 w + cond (exit && not r) 0 w
  four_part exit p q r u w a b c = grind arith

  more_part : (exit u q : Bool) (w : ℕ) → (u ≡ true → q ≡ true) → cond (exit && not u) 0 w ≤ cond (exit && not q) 0 w
  more_part exit u q w a = grind arith

  same_part : (exit p q : Bool) (w : ℕ) → exit ≡ false → cond (exit && not p) 0 w ≡ cond (exit && not q) 0 w
  same_part exit p q w e = grind arith

  pub kept_meet_join : (both one other neither : ℕ → Bool) (x y : Cut) (k : ℕ) → AreFourKept both one other neither
      → kept_value both (meet x y) k + kept_value neither (join x y) k ≤ kept_value one x k + kept_value other y k
  kept_meet_join both one other neither x y k d =
      meet_join m x y k k (kept_rate both) (kept_rate one) (kept_rate other) (kept_rate neither) (omega arith) (record {
        inner = λ a t _ _ e. (
          same_part (is_exit_at m (head m a)) (both (head m a)) (one (head m a)) (rate m a t) e,
          same_part (is_exit_at m (head m a)) (one (head m a)) (other (head m a)) (rate m a t) e,
          same_part (is_exit_at m (head m a)) (other (head m a)) (neither (head m a)) (rate m a t) e,
        );
        less = λ a t _ _. (
          more_part (is_exit_at m (head m a)) (neither (head m a)) (one (head m a)) (rate m a t) (d.one_more (head m a)),
          more_part (is_exit_at m (head m a)) (neither (head m a)) (other (head m a)) (rate m a t) (d.other_more (head m a)),
        );
        least = λ a t _ _. four_part (is_exit_at m (head m a)) (both (head m a)) (one (head m a)) (other (head m a)) (neither (head m a)) (rate m a t)
            (d.in_one (head m a)) (d.one_more (head m a)) (d.other_more (head m a));
      })

-- who is in the rest of a list is in the list
pub in_rest : (e f : ℕ) (es : List ℕ) → is_among es f ≡ true → is_among (e ∷ es) f ≡ true
in_rest e f es h = go (eqb e f) (is_among es f) h
  where
    go : (b c : Bool) → c ≡ true → (b || c) ≡ true
    go b c h = grind arith
