-- The sums of a plan, parted at a moment: what the moves before it and those from it on add up to.
use Rattle.std.proofs.Common.{◌≡◌, ℕ, suc, ◌+◌, ◌<◌, ◌≤◌, Bool, true, false, cond, not, ◌&&◌, eqb, leb, ltb, List, [], ◌∷◌, ◌++◌, ◌↔◌, length, get_or, refl, ap, sym, ◌∙◌, arith}
use Rattle.std.specs.List.{All, sum_by, filter}
use Rattle.std.proofs.lemmas.List.Filters.{sum_by-filter_both}
use Rattle.std.proofs.lemmas.List.Sums.{sum_by-append}
use Rattle.std.proofs.lemmas.List.Elements.{All-append, All-filter, All-tail, All-weaker, filter_passes}
use Rattle.std.proofs.lemmas.Bool.{and_right, leb-true, lt-leb, ltb-true, ne_eqb, not-true}
use Rattle.std.proofs.lemmas.Bool.Decides.{nat_tests}
use Rattle.evac_law.specs.declared.model.Model.{Model}
use Rattle.evac_law.specs.declared.plan.Move.{Move}
use Rattle.evac_law.specs.Building.{arc_at, head, tail, arrival, is_exit_at, entry}
use Rattle.evac_law.specs.Plans.{came, left, leaving, coming, moved, out_by}
use Rattle.evac_law.specs.Sums.{moments_to}
use Rattle.evac_law.proofs.SumLemmas.{by_suc, sum_by-add, sum_by-nothing, sum_by-same, sum_by-same_all}
use Rattle.replan.specs.Committed.{moves_before, moves_from}

-- what two tests let through, one after the other
pub both : (a b : Bool) (w : ℕ) → cond a (cond b w 0) 0 ≡ cond (a && b) w 0
both true b w = refl
both false b w = refl

-- ---- over what a test keeps

-- a sum over the elements that a test keeps is a guarded sum over all
pub over_filter : {X : Type 0} (c : X → Bool) (f : X → ℕ) (p : List X) → sum_by f (filter c p) ≡ sum_by (λ v. cond (c v) (f v) 0) p
over_filter {X} c f p =
    let guarded = λ (v : X). cond (c v) (f v) 0 in
    let no = λ (v : X). not (c v) in
    omega (
      arith,
      sum_by-filter_both c no (λ v. refl) guarded p,
      sum_by-same_all f guarded (filter c p)
          (All-weaker (λ v. c v ≡ true) (λ v. f v ≡ guarded v) (λ v e. sym (ap (λ b. cond b (f v) 0) e)) (filter c p) (filter_passes c p)),
      sum_by-same_all guarded (λ _. 0) (filter no p)
          (All-weaker (λ v. no v ≡ true) (λ v. guarded v ≡ 0) (λ v e. ap (λ b. cond b (f v) 0) (not-true (c v) e)) (filter no p) (filter_passes no p)),
      sum_by-nothing (filter no p),
    )

other : (x s : ℕ) → leb s x ≡ not (ltb x s)
other x s = grind (arith, nat_tests)

-- any sum over a plan is the sum over its moves before a moment and that over those from it on
pub parted : (f : Move → ℕ) (s : ℕ) (p : List Move) → sum_by f p ≡ sum_by f (moves_before s p) + sum_by f (moves_from s p)
parted f s p = sym (sum_by-filter_both (λ v. ltb v.moment s) (λ v. leb s v.moment) (λ v. other v.moment s) f p)

-- the moves before a moment are before it
pub before_is : (s : ℕ) (p : List Move) → All (λ v. v.moment < s) (moves_before s p)
before_is s p =
    All-weaker (λ v. ltb v.moment s ≡ true) (λ v. v.moment < s) (λ v e. ltb-true v.moment s e) (moves_before s p)
    (filter_passes (λ v. ltb v.moment s) p)

-- what all moves have, those before a moment have
pub All-made : (P : Move → Type 0) (s : ℕ) (p : List Move) → All P p → All P (moves_before s p)
All-made P s p h = All-filter (λ v. ltb v.moment s) P p h

-- nobody moves before s
abbrev pub IsLate : ℕ → List Move → Type 0
IsLate s r = All (λ v. 0 < v.people → s ≤ v.moment) r

pub all_late : (s : ℕ) (r : List Move) → All (λ v. s ≤ v.moment) r → IsLate s r
all_late s r h i d l some = h i d l

-- as by a plan's moves from s on
pub from_late : (s : ℕ) (p : List Move) → IsLate s (moves_from s p)
from_late s p =
    All-weaker (λ v. leb s v.moment ≡ true) (λ v. 0 < v.people → s ≤ v.moment) (λ v e some. leb-true s v.moment e) (moves_from s p)
    (filter_passes (λ v. leb s v.moment) p)

-- ---- sums that are 0

-- the people of the moves whose arc and moment pass a test
abbrev pub counted : (ℕ → ℕ → Bool) → List Move → ℕ
counted b p = sum_by (λ v. cond (b v.arc v.moment) v.people 0) p

-- where a test fails at each move with somebody, nobody is counted
nobody_counted : (b : ℕ → ℕ → Bool) (p : List Move) → All (λ v. 0 < v.people → b v.arc v.moment ≡ false) p → counted b p ≡ 0
nobody_counted b p h =
    sum_by-same_all _ (λ _. 0) p (λ i d l. let v = get_or p i d in none (b v.arc v.moment) v.people (h i d l)) ∙ sum_by-nothing p
  where
    none : (b : Bool) (w : ℕ) → (0 < w → b ≡ false) → cond b w 0 ≡ 0
    none b w h = grind arith

none_late : (b : ℕ → ℕ → Bool) (r : List Move) (s : ℕ) → IsLate s r → ((i j : ℕ) → s ≤ j → b i j ≡ false) → counted b r ≡ 0
none_late b r s late h = nobody_counted b r (λ i d k some. let v = get_or r i d in h v.arc v.moment (late i d k some))

none_made : (b : ℕ → ℕ → Bool) (p : List Move) (s : ℕ) → ((i j : ℕ) → j < s → b i j ≡ false) → counted b (moves_before s p) ≡ 0
none_made b p s h = nobody_counted b (moves_before s p) (λ i d k _. let v = get_or (moves_before s p) i d in h v.arc v.moment (before_is s p i d k))

-- the people who came to a node along arcs by a moment
unfoldable pub arrived : Model → List Move → ℕ → ℕ → ℕ
arrived m p n t = sum_by (λ v. cond (eqb (head m v.arc) n && leb (arrival m v.arc v.moment) t) v.people 0) p

pub came_is : (m : Model) (p : List Move) (n t : ℕ) → came m p n t ≡ sum_by (entry m n) (moments_to t) + arrived m p n t
unfolding came arrived
came_is m p n t = refl

-- where nobody moves before s, nobody does anything before s
pub left_none : (m : Model) (r : List Move) (n s t : ℕ) → IsLate s r → t < s → left m r n t ≡ 0
unfolding left
left_none m r n s t h l = none_late (λ i j. eqb (tail m i) n && leb j t) r s h (λ i j k. and_right (eqb (tail m i) n) _ (lt-leb _ _ (omega (arith, k, l))))

pub arrived_none : (m : Model) (r : List Move) (n s t : ℕ) → IsLate s r → t < s → arrived m r n t ≡ 0
unfolding arrived
arrived_none m r n s t h l =
    none_late (λ i j. eqb (head m i) n && leb (arrival m i j) t) r s h (λ i j k. and_right (eqb (head m i) n) _ (lt-leb _ _ (omega (arith, k, l))))

pub moved_none : (r : List Move) (a s t : ℕ) → IsLate s r → t < s → moved r a t ≡ 0
unfolding moved
moved_none r a s t h l = none_late (λ i j. eqb i a && eqb j t) r s h (λ i j k. and_right (eqb i a) _ (ne_eqb _ _ (omega (arith, k, l))))

pub out_none : (m : Model) (r : List Move) (s t : ℕ) → IsLate s r → t < s → out_by m r t ≡ 0
unfolding out_by
out_none m r s t h l =
    none_late (λ i j. is_exit_at m (head m i) && leb (arrival m i j) t) r s h
    (λ i j k. and_right (is_exit_at m (head m i)) _ (lt-leb _ _ (omega (arith, k, l))))

-- nor does anybody arrive at s itself
pub arrived_not_yet : (m : Model) (r : List Move) (n s : ℕ) → IsLate s r → All (λ v. 1 ≤ (arc_at m v.arc).travel) r → arrived m r n s ≡ 0
unfolding arrived
arrived_not_yet m r n s h one =
    nobody_counted (λ i j. eqb (head m i) n && leb (arrival m i j) s) r
    (λ i d k some. let v = get_or r i d in and_right (eqb (head m v.arc) n) _ (lt-leb _ _ (omega (arith, h i d k some, one i d k))))

-- by the moves before s nobody enters an arc from s on
pub moved_over : (p : List Move) (a s t : ℕ) → s ≤ t → moved (moves_before s p) a t ≡ 0
unfolding moved
moved_over p a s t l = none_made (λ i j. eqb i a && eqb j t) p s (λ i j k. and_right (eqb i a) _ (ne_eqb _ _ (omega (arith, k, l))))

pub leaving_over : (m : Model) (p : List Move) (n s t : ℕ) → s ≤ t → leaving m (moves_before s p) n t ≡ 0
unfolding leaving
leaving_over m p n s t l = none_made (λ i j. eqb (tail m i) n && eqb j t) p s (λ i j k. and_right (eqb (tail m i) n) _ (ne_eqb _ _ (omega (arith, k, l))))

just_now : (b : Bool) (x s p : ℕ) → (0 < p → s ≤ x) → cond (b && leb x s) p 0 ≡ cond (b && eqb x s) p 0
just_now b x s p h = grind (arith, nat_tests)

-- where nobody moves before s, whoever has left by s leaves at s
pub left_now : (m : Model) (r : List Move) (n s : ℕ) → IsLate s r → left m r n s ≡ leaving m r n s
unfolding left leaving
left_now m r n s h =
    sum_by-same_all _ _ r (λ i d k. let v = get_or r i d in just_now (eqb (tail m v.arc) n) v.moment s v.people (h i d k))

-- ---- a moment later

pub arrived_suc : (m : Model) (p : List Move) (n t : ℕ) → arrived m p n (suc t) ≡ arrived m p n t + coming m p n (suc t)
unfolding arrived coming
arrived_suc m p n t =
    sum_by-same _ _ p (λ v. by_suc (eqb (head m v.arc) n) (arrival m v.arc v.moment) t v.people) ∙ sum_by-add _ _ p

-- ---- a plan that makes a plan's moves before s, and then others

-- whatever is counted, w is p's moves before s and then r
pub record IsBehind (m : Model) (p : List Move) (s : ℕ) (r w : List Move) : Type 0 where
  pub arcs : All (λ v. v.arc < length m.arcs) w ↔ All (λ v. v.arc < length m.arcs) r
  pub counts : (b : ℕ → ℕ → Bool) → counted b w ≡ counted b (moves_before s p) + counted b r

module _ (m : Model) (p r w : List Move) (s : ℕ) (behind : IsBehind m p s r w) where
  pub moves_behind : (a t : ℕ) → moved w a t ≡ moved (moves_before s p) a t + moved r a t
  unfolding moved
  moves_behind a t = behind.counts (λ i j. eqb i a && eqb j t)

  pub left_behind : (n t : ℕ) → left m w n t ≡ left m (moves_before s p) n t + left m r n t
  unfolding left
  left_behind n t = behind.counts (λ i j. eqb (tail m i) n && leb j t)

  pub leaving_behind : (n t : ℕ) → leaving m w n t ≡ leaving m (moves_before s p) n t + leaving m r n t
  unfolding leaving
  leaving_behind n t = behind.counts (λ i j. eqb (tail m i) n && eqb j t)

  pub arrived_behind : (n t : ℕ) → arrived m w n t ≡ arrived m (moves_before s p) n t + arrived m r n t
  unfolding arrived
  arrived_behind n t = behind.counts (λ i j. eqb (head m i) n && leb (arrival m i j) t)

  pub coming_behind : (n t : ℕ) → coming m w n t ≡ coming m (moves_before s p) n t + coming m r n t
  unfolding coming
  coming_behind n t = behind.counts (λ i j. eqb (head m i) n && eqb (arrival m i j) t)

  pub outs_behind : (k : ℕ) → out_by m w k ≡ out_by m (moves_before s p) k + out_by m r k
  unfolding out_by
  outs_behind k = behind.counts (λ i j. is_exit_at m (head m i) && leb (arrival m i j) k)

All-behind : (P : Move → Type 0) (xs ys : List Move) → All P (xs ++ ys) → All P ys
All-behind P [] ys h = h
All-behind P (x ∷ xs) ys h = All-behind P xs ys (All-tail P x (xs ++ ys) h)

-- such are the two lists one after another, and the plan itself
pub whole_behind : (m : Model) (p : List Move) (s : ℕ) (r : List Move) → All (λ v. v.arc < length m.arcs) p → IsBehind m p s r (moves_before s p ++ r)
whole_behind m p s r in_p =
    let P : Move → Type 0 = λ v. v.arc < length m.arcs in record {
      arcs = (All-behind P (moves_before s p) r, All-append P (moves_before s p) r (All-made P s p in_p));
      counts = λ b. sum_by-append (λ v. cond (b v.arc v.moment) v.people 0) (moves_before s p) r;
    }

pub own_behind : (m : Model) (p : List Move) (s : ℕ) → All (λ v. v.arc < length m.arcs) p → IsBehind m p s (moves_from s p) p
own_behind m p s in_p = record {
  arcs = (All-filter (λ v. leb s v.moment) (λ v. v.arc < length m.arcs) p, λ _. in_p);
  counts = λ b. parted (λ v. cond (b v.arc v.moment) v.people 0) s p;
}
