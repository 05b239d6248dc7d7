-- Windows in order: what a window more or less leaves of them, and that one undoes the other.
use Rattle.std.proofs.Common.{◌≡◌, ℕ, suc, ◌+◌, ◌<◌, ◌≤◌, Bool, true, false, ◌||◌, ltb, List, [], ◌∷◌, length, refl, ap, sym, ◌∙◌, arith, inl, inr, ◌⊎◌, Some, None}
use Rattle.std.specs.List.{All, AllPairs, list_any, insert, position, position_or_len, remove}
use Rattle.std.proofs.lemmas.Bool.{and_from, and_parts, and_cases, cases_Bool, eqb-true, eq-eqb, le-ltb, lt-ltb, ltb-false, ltb-true, not-true, or_from, or_parts}
use Rattle.std.proofs.lemmas.List.Elements.{All-cons, All-head, All-tail}
use Rattle.std.proofs.lemmas.List.Kept.{AllPairs-cons}
use Rattle.std.proofs.lemmas.List.Folds.{list_any_at, list_any_none}
use Rattle.std.proofs.lemmas.List.Quantifiers.{position-Some}
use Rattle.std.proofs.lemmas.List.Sums.{prefix_len-le-length, prefix_len_passes}
use Rattle.std.proofs.lemmas.Grind.{common_steps}
use Rattle.evac_law.specs.Limits.{window_limit}
use Rattle.evac_law.specs.Windows.{AreWindows, EndsBefore, IsWindow, is_same_window, overlaps, with_window, without_window}
use Rattle.evac_law.specs.declared.window.Window.{Window}

-- ---- a list's first element and the others

pub pairs-head : {X : Type 0} (R : X → X → Type 0) (x : X) (xs : List X) → AllPairs R (x ∷ xs) → All (R x) xs
pairs-head R x xs h k d l = h 0 (suc k) d (omega arith) (omega (arith, l))

pub pairs-tail : {X : Type 0} (R : X → X → Type 0) (x : X) (xs : List X) → AllPairs R (x ∷ xs) → AllPairs R xs
pairs-tail R x xs h i j d l m = h (suc i) (suc j) d (omega (arith, l)) (omega (arith, m))

-- ---- two windows

-- windows that share no moment stand one before the other
apart : (v w : Window) → overlaps v w ≡ false → (w.until ≤ v.from) ⊎ (v.until ≤ w.from)
apart v w h = grind (arith, and_cases, ltb-false)

-- and the other way round
no_overlap : (v w : Window) → (w.until ≤ v.from) ⊎ (v.until ≤ w.from) → overlaps v w ≡ false
no_overlap v w (inl e) = rw (le-ltb v.from w.until e) refl
no_overlap v w (inr e) = grind (arith, le-ltb w.from v.until e)

same_numbers : (v w : Window) → is_same_window v w ≡ true → v ≡ w
same_numbers v w h = grind (arith, and_parts, eqb-true)

same_itself : (w : Window) → is_same_window w w ≡ true
same_itself w = and_from _ _ (eq-eqb w.from w.from refl) (eq-eqb w.until w.until refl)

-- ---- one window more

-- it comes after another, and after those that come after that one
behind_with : (u w : Window) (ws : List Window) → EndsBefore u w → All (EndsBefore u) ws → All (EndsBefore u) (with_window ws w)
behind_with u w [] e h = All-cons (EndsBefore u) w [] e h
behind_with u w (v ∷ vs) e h = elim (cases_Bool (ltb w.from v.from)) [
  | inl t ↦ rw t (All-cons (EndsBefore u) w (v ∷ vs) e h)
  | inr f ↦ rw f (All-cons (EndsBefore u) v (with_window vs w) (All-head (EndsBefore u) v vs h) (behind_with u w vs e (All-tail (EndsBefore u) v vs h)))
]

length-with : (ws : List Window) (w : Window) → length (with_window ws w) ≡ length ws + 1
length-with [] w = refl
length-with (v ∷ vs) w = elim (cases_Bool (ltb w.from v.from)) [
  | inl t ↦ rw t (omega arith)
  | inr f ↦ rw f (omega (arith, length-with vs w))
]

each-with : (ws : List Window) (w : Window) → IsWindow w → All IsWindow ws → All IsWindow (with_window ws w)
each-with [] w is h = All-cons IsWindow w [] is h
each-with (v ∷ vs) w is h = elim (cases_Bool (ltb w.from v.from)) [
  | inl t ↦ rw t (All-cons IsWindow w (v ∷ vs) is h)
  | inr f ↦ rw f (All-cons IsWindow v (with_window vs w) (All-head IsWindow v vs h) (each-with vs w is (All-tail IsWindow v vs h)))
]

-- whoever ends before one that begins no later ends before it
before_all : (w v : Window) (vs : List Window) → w.until ≤ v.from → IsWindow v → All (EndsBefore v) vs → All (EndsBefore w) vs
before_all w v vs l is h k d i = omega (arith, l, is.ordered, h k d i)

apart-with : (ws : List Window) (w : Window) → IsWindow w → All IsWindow ws → AllPairs EndsBefore ws
    → list_any (λ v. overlaps v w) ws ≡ false → AllPairs EndsBefore (with_window ws w)
apart-with [] w is each h none = AllPairs-cons EndsBefore w [] (λ k d l. absurd (omega (arith, l))) h
apart-with (v ∷ vs) w is each h none = elim (cases_Bool (ltb w.from v.from)) [
  | inl t ↦
      let less = ltb-true w.from v.from t in
      let first : w.until ≤ v.from = elim (apart v w parts.0) [ inl e ↦ e | inr e ↦ absurd (omega (arith, e, less, here.ordered)) ] in
      rw t (AllPairs-cons EndsBefore w (v ∷ vs) (All-cons (EndsBefore w) v vs first (before_all w v vs first here behind)) h)
  | inr f ↦
      let more = ltb-false w.from v.from f in
      let first : v.until ≤ w.from = elim (apart v w parts.0) [ inl e ↦ absurd (omega (arith, e, more, is.ordered)) | inr e ↦ e ] in
      rw f (AllPairs-cons EndsBefore v (with_window vs w) (behind_with v w vs first behind)
      (apart-with vs w is (All-tail IsWindow v vs each) (pairs-tail EndsBefore v vs h) parts.1))
]
  where
    parts : (overlaps v w ≡ false) × (list_any (λ v. overlaps v w) vs ≡ false)
    parts = or_parts (overlaps v w) (list_any (λ v. overlaps v w) vs) none

    here : IsWindow v
    here = All-head IsWindow v vs each

    behind : All (EndsBefore v) vs
    behind = pairs-head EndsBefore v vs h

pub windows_with : (ws : List Window) (w : Window) → AreWindows ws → IsWindow w → list_any (λ v. overlaps v w) ws ≡ false
    → length ws < window_limit → AreWindows (with_window ws w)
windows_with ws w are is none few = grind (arith, length-with, each-with, apart, apart-with)

-- ---- one window less

all-without : (P : Window → Type 0) (ws : List Window) (w : Window) → All P ws → All P (without_window ws w)
all-without P [] w h = h
all-without P (v ∷ vs) w h = elim (cases_Bool (is_same_window v w)) [
  | inl t ↦ rw t (All-tail P v vs h)
  | inr f ↦ rw f (All-cons P v (without_window vs w) (All-head P v vs h) (all-without P vs w (All-tail P v vs h)))
]

length-without : (ws : List Window) (w : Window) → length (without_window ws w) ≤ length ws
length-without [] w = omega arith
length-without (v ∷ vs) w = elim (cases_Bool (is_same_window v w)) [
  | inl t ↦ rw t (omega arith)
  | inr f ↦ rw f (omega (arith, length-without vs w))
]

apart-without : (ws : List Window) (w : Window) → AllPairs EndsBefore ws → AllPairs EndsBefore (without_window ws w)
apart-without [] w h = h
apart-without (v ∷ vs) w h = elim (cases_Bool (is_same_window v w)) [
  | inl t ↦ rw t (pairs-tail EndsBefore v vs h)
  | inr f ↦ rw f (AllPairs-cons EndsBefore v (without_window vs w) (all-without (EndsBefore v) vs w (pairs-head EndsBefore v vs h))
      (apart-without vs w (pairs-tail EndsBefore v vs h)))
]

pub windows_without : (ws : List Window) (w : Window) → AreWindows ws → AreWindows (without_window ws w)
windows_without ws w are = record {
  few = omega (arith, length-without ws w, are.few);
  each = all-without IsWindow ws w are.each;
  apart = apart-without ws w are.apart;
}

pub fewer_without : (ws : List Window) (w : Window) → list_any (λ v. is_same_window v w) ws ≡ true
    → length (without_window ws w) + 1 ≡ length ws
fewer_without [] w h = absurd (cc)
fewer_without (v ∷ vs) w h = elim (cases_Bool (is_same_window v w)) [
  | inl t ↦ rw t (omega arith)
  | inr f ↦ rw f (omega (arith, fewer_without vs w (rw f at h)))
]

-- ---- the one undoes the other

pub has_with : (ws : List Window) (w : Window) → list_any (λ v. is_same_window v w) (with_window ws w) ≡ true
has_with [] w = rw (same_itself w) refl
has_with (v ∷ vs) w = elim (cases_Bool (ltb w.from v.from)) [
  | inl t ↦ rw t (rw (same_itself w) refl)
  | inr f ↦ rw f (rw (has_with vs w) (or_true (is_same_window v w)))
]
  where
    or_true : (b : Bool) → (b || true) ≡ true
    or_true true = refl
    or_true false = refl

-- a window that shares no moment with another isn't the other
not_same : (v w : Window) → IsWindow w → overlaps v w ≡ false → is_same_window v w ≡ false
not_same v w is h = grind (arith, cases_Bool, and_parts, eqb-true, apart)

pub without_with : (ws : List Window) (w : Window) → IsWindow w → list_any (λ v. overlaps v w) ws ≡ false
    → without_window (with_window ws w) w ≡ ws
without_with [] w is none = rw (same_itself w) refl
without_with (v ∷ vs) w is none = elim (cases_Bool (ltb w.from v.from)) [
  | inl t ↦ rw t (rw (same_itself w) refl)
  | inr f ↦ rw f (rw (not_same v w is parts.0) (ap (λ z. v ∷ z) (without_with vs w is parts.1)))
]
  where
    parts : (overlaps v w ≡ false) × (list_any (λ v. overlaps v w) vs ≡ false)
    parts = or_parts (overlaps v w) (list_any (λ v. overlaps v w) vs) none

-- one that stands among others has what they all have
among : (P : Window → Type 0) (ws : List Window) (w : Window) → list_any (λ v. is_same_window v w) ws ≡ true → All P ws → P w
among P [] w has h = absurd (cc)
among P (v ∷ vs) w has h = elim (cases_Bool (is_same_window v w)) [
  | inl t ↦ rw (sym (same_numbers v w t)) (All-head P v vs h)
  | inr f ↦ among P vs w (rw f at has) (All-tail P v vs h)
]

pub window_among : (ws : List Window) (w : Window) → AreWindows ws → list_any (λ v. is_same_window v w) ws ≡ true → IsWindow w
window_among ws w are has = among IsWindow ws w has are.each

-- a window stands first among those that it ends before
with_first : (w : Window) (vs : List Window) → IsWindow w → All (EndsBefore w) vs → with_window vs w ≡ w ∷ vs
with_first w [] is h = refl
with_first w (v ∷ vs) is h = rw (lt-ltb w.from v.from (omega (arith, is.ordered, All-head (EndsBefore w) v vs h))) refl

pub with_without : (ws : List Window) (w : Window) → All IsWindow ws → AllPairs EndsBefore ws
    → list_any (λ v. is_same_window v w) ws ≡ true → with_window (without_window ws w) w ≡ ws
with_without [] w each h has = absurd (cc)
with_without (v ∷ vs) w each h has = elim (cases_Bool (is_same_window v w)) [
  | inl t ↦
      let same = same_numbers v w t in
      rw t (rw (sym same) (with_first v vs (All-head IsWindow v vs each) (pairs-head EndsBefore v vs h)))
  | inr f ↦
      let rest = rw f at has in
      let after : v.until ≤ w.from = among (EndsBefore v) vs w rest (pairs-head EndsBefore v vs h) in
      let here = All-head IsWindow v vs each in
      rw f (rw (le-ltb w.from v.from (omega (arith, after, here.ordered)))
      (ap (λ z. v ∷ z) (with_without vs w (All-tail IsWindow v vs each) (pairs-tail EndsBefore v vs h) rest)))
]

-- whoever ends before all of some shares no moment with one of them
none_behind : (w : Window) (vs : List Window) → All (EndsBefore w) vs → list_any (λ v. overlaps v w) vs ≡ false
none_behind w [] h = refl
none_behind w (v ∷ vs) h =
    or_from (overlaps v w) _ (no_overlap v w (inl (All-head (EndsBefore w) v vs h))) (none_behind w vs (All-tail (EndsBefore w) v vs h))

pub none_without : (ws : List Window) (w : Window) → AllPairs EndsBefore ws
    → list_any (λ v. is_same_window v w) ws ≡ true → list_any (λ v. overlaps v w) (without_window ws w) ≡ false
none_without [] w h has = refl
none_without (v ∷ vs) w h has = elim (cases_Bool (is_same_window v w)) [
  | inl t ↦ rw t (rw (sym (same_numbers v w t)) (none_behind v vs (pairs-head EndsBefore v vs h)))
  | inr f ↦
      let rest = rw f at has in
      rw f (or_from (overlaps v w) _ (no_overlap v w (inr (among (EndsBefore v) vs w rest (pairs-head EndsBefore v vs h))))
      (none_without vs w (pairs-tail EndsBefore v vs h) rest))
]

-- ---- places

one_more : (n : ℕ) → 1 + n ≡ suc n
one_more n = omega arith

some_place : {X : Type 0} (p : X → Bool) (xs : List X) (i : ℕ) → position p xs ≡ Some i → i ≡ position_or_len p xs
some_place p xs i e = grind (arith, common_steps)

no_place : {X : Type 0} (p : X → Bool) (xs : List X) → position p xs ≡ None → position_or_len p xs ≡ length xs
no_place p xs e = grind (arith, common_steps, prefix_len-le-length)

-- a window stands before the first that begins later
insert_at : (ws : List Window) (w : Window) → insert ws (position_or_len (λ v. ltb w.from v.from) ws) w ≡ with_window ws w
insert_at [] w = refl
insert_at (v ∷ vs) w = elim (cases_Bool (ltb w.from v.from)) [
  | inl t ↦ rw t refl
  | inr f ↦ rw f (ap (λ i. insert (v ∷ vs) i w) (one_more _) ∙ ap (λ z. v ∷ z) (insert_at vs w))
]

-- the first with the same numbers goes
remove_at : (ws : List Window) (w : Window) → list_any (λ v. is_same_window v w) ws ≡ true
    → remove ws (position_or_len (λ v. is_same_window v w) ws) ≡ without_window ws w
remove_at [] w h = absurd (cc)
remove_at (v ∷ vs) w h = elim (cases_Bool (is_same_window v w)) [
  | inl t ↦ rw t refl
  | inr f ↦ rw f (ap (remove (v ∷ vs)) (one_more _) ∙ ap (λ z. v ∷ z) (remove_at vs w (rw f at h)))
]

pub insert_some : (ws : List Window) (w : Window) (i : ℕ) → position (λ v. ltb w.from v.from) ws ≡ Some i → insert ws i w ≡ with_window ws w
insert_some ws w i e = ap (λ i. insert ws i w) (some_place (λ v. ltb w.from v.from) ws i e) ∙ insert_at ws w

pub insert_none : (ws : List Window) (w : Window) → position (λ v. ltb w.from v.from) ws ≡ None → insert ws (length ws) w ≡ with_window ws w
insert_none ws w e = ap (λ i. insert ws i w) (sym (no_place (λ v. ltb w.from v.from) ws e)) ∙ insert_at ws w

-- what is found stands among them
pub has_some : (ws : List Window) (w : Window) (i : ℕ) → position (λ v. is_same_window v w) ws ≡ Some i → list_any (λ v. is_same_window v w) ws ≡ true
has_some ws w i e =
    let found = position-Some (λ v. is_same_window v w) ws i w e in
    list_any_at (λ v. is_same_window v w) ws i w found.0 found.1

pub has_none : (ws : List Window) (w : Window) → position (λ v. is_same_window v w) ws ≡ None → list_any (λ v. is_same_window v w) ws ≡ false
has_none ws w e = grind (arith, list_any_none, not-true, prefix_len_passes)

pub remove_some : (ws : List Window) (w : Window) (i : ℕ) → position (λ v. is_same_window v w) ws ≡ Some i → remove ws i ≡ without_window ws w
remove_some ws w i e = ap (remove ws) (some_place (λ v. is_same_window v w) ws i e) ∙ remove_at ws w (has_some ws w i e)
