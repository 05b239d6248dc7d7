-- The numbers at a node: each of those who leave is at one moment and on one arc, each of those who come at one moment, on one arc or among the entrants.
use Rattle.std.proofs.Common.{◌≡◌, ℕ, zero, suc, ◌+◌, ◌-◌, ◌<◌, ◌≤◌, ◌⊎◌, inl, inr, Bool, true, cond, ◌&&◌, eqb, List, length, refl, ap, sym, ◌∙◌, arith, subst}
use Rattle.std.specs.List.{All}
use Rattle.std.proofs.lemmas.Bool.{cases_lt, eqb-true, eq-eqb}
use Rattle.std.proofs.lemmas.Bool.Decides.{nat_tests}
use Rattle.evac_law.specs.declared.model.Model.{Model}
use Rattle.evac_law.specs.declared.plan.Move.{Move}
use Rattle.evac_law.specs.Building.{arc_at, arrival, entry, head, tail}
use Rattle.evac_law.specs.Plans.{came, coming, left, leaving, moved}
use Rattle.evac_law.proofs.SumLemmas.{by_place, sum_by-nothing, sum_by-same}
use Rattle.evac_law.proofs.WeakDuality.{came-suc, came-zero, left-suc, left-zero}
use Rattle.cards.specs.Numbers.{IsCountedAt, count_before, brought, comers_before, entrants_before, leavers_before, part}
use Rattle.cards.proofs.Moments.{Grows, one_moment}
use Rattle.cards.proofs.Parts.{HasPart, has_part, one_part, part_ends}

-- whether an arc leaves a node, and whether it enters it
abbrev pub from_node : Model → ℕ → ℕ → Bool
from_node m n a = eqb (tail m a) n

abbrev pub to_node : Model → ℕ → ℕ → Bool
to_node m n a = eqb (head m a) n

-- the people who enter an arc at a moment, and who come out of it then
abbrev pub enters_at : List Move → ℕ → ℕ → ℕ
enters_at p t a = moved p a t

abbrev pub comes_at : Model → List Move → ℕ → ℕ → ℕ
comes_at m p t a = brought m p a t

same_arrival : (b : Bool) (s d t w : ℕ) → cond (b && eqb (s + d) (t + d)) w 0 ≡ cond (b && eqb s t) w 0
same_arrival b s d t w = grind (arith, nat_tests)

module _ (m : Model) (p : List Move) where
  -- ---- a node from moment to moment

  pub left_is : (n t : ℕ) → left m p n t ≡ count_before (left m p n) t + leaving m p n t
  left_is n zero = left-zero m p n ∙ (let z : leaving m p n 0 ≡ 0 + leaving m p n 0 = omega arith in z)
  left_is n (suc t) = left-suc m p n t

  pub came_is : (n t : ℕ) → came m p n t ≡ (count_before (came m p n) t + coming m p n t) + entry m n t
  came_is n zero = omega (arith, came-zero m p n)
  came_is n (suc t) = omega (arith, came-suc m p n t)

  pub left_grows : (n : ℕ) → Grows (left m p n)
  left_grows n t = omega (arith, left-suc m p n t)

  pub came_grows : (n : ℕ) → Grows (came m p n)
  came_grows n t = omega (arith, came-suc m p n t)

  -- who enters an arc comes out of it at the arrival
  pub brought_is : (a t : ℕ) → brought m p a (arrival m a t) ≡ moved p a t
  unfolding brought moved
  brought_is a t = sum_by-same _ _ p (λ v. same_arrival (eqb v.arc a) v.moment (arc_at m a).travel t v.people)

  -- nobody comes out of an arc before its traversal time
  pub brought_none : (a t : ℕ) → t < (arc_at m a).travel → brought m p a t ≡ 0
  unfolding brought
  brought_none a t l = sum_by-same _ (λ _. 0) p (λ v. early (eqb v.arc a) v.moment (arc_at m a).travel v.people l) ∙ sum_by-nothing p
    where
      early : (b : Bool) (s d w : ℕ) → t < d → ◌≡◌ {A = ℕ} (cond (b && eqb (s + d) t) w 0) 0
      early b s d w l = grind (arith, nat_tests)

  -- and at its traversal time or later, who entered it that long before
  pub brought_late : (a t d : ℕ) → d ≡ (arc_at m a).travel → d ≤ t → brought m p a t ≡ moved p a (t - d)
  brought_late a t d e l = grind (arith, brought_is)

  -- ---- over the arcs of a node

  module _ (arcs : All (λ (v : Move). v.arc < length m.arcs) p) where
    pub leaving_is : (n t : ℕ) → leaving m p n t ≡ part (from_node m n) (enters_at p t) (length m.arcs)
    unfolding leaving moved
    leaving_is n t = sym (by_place (from_node m n) (λ (v : Move). v.arc) (λ v. v.people) (λ a v. eqb v.moment t) (length m.arcs) p arcs)

    pub coming_is : (n t : ℕ) → coming m p n t ≡ part (to_node m n) (comes_at m p t) (length m.arcs)
    unfolding coming brought
    coming_is n t = sym (by_place (to_node m n) (λ (v : Move). v.arc) (λ v. v.people) (λ a v. eqb (arrival m a v.moment) t) (length m.arcs) p arcs)

    -- ---- who leaves

    -- a number of those who enter an arc at a moment
    pub record Leaves (a t i : ℕ) : Type 0 where
      pub arc_in : a < length m.arcs
      pub from : leavers_before m p a t ≤ i
      pub until : i < leavers_before m p a t + moved p a t

    picked_from : (a n : ℕ) → tail m a ≡ n → from_node m n a ≡ true
    picked_from a n e = eq-eqb (tail m a) n e

    pub leaves_at : (a t i : ℕ) → Leaves a t i → IsCountedAt (left m p (tail m a)) i t
    unfolding leavers_before
    leaves_at a t i h = grind (arith, part_ends, picked_from, left_is, leaving_is)

    pub one_leaver : (a b t u i : ℕ) → tail m a ≡ tail m b → Leaves a t i → Leaves b u i → (a ≡ b) × (t ≡ u)
    unfolding leavers_before
    one_leaver a b t u i e g h =
        let n = tail m b in
        let there : IsCountedAt (left m p n) i t = subst (λ (x : ℕ). IsCountedAt (left m p x) i t) e (leaves_at a t i g) in
        let moments : t ≡ u = one_moment (left m p n) i t u (left_grows n) there (leaves_at b u i h) in
        let L : ℕ → ℕ → ℕ = λ x s. count_before (left m p x) s + part (from_node m x) (enters_at p s) a in
        let first : L (tail m a) t ≡ L n u = ap (λ x. L x t) e ∙ ap (λ s. L n s) moments in
        let people : moved p a t ≡ moved p a u = ap (λ s. moved p a s) moments in
        let low' = h.from in
        let high' = h.until in
        let o = i - count_before (left m p n) u in (
          one_part (from_node m n) (enters_at p u) a b o (picked_from a n e) (picked_from b n refl)
              (omega (arith, first)) (omega (arith, first, people)) (omega (arith, low')) (omega (arith, low', high')),
          moments,
        )

    -- ---- who comes

    -- a number of those who come out of an arc at a moment, and one of those who come in from nowhere then
    pub record Comes (a t i : ℕ) : Type 0 where
      pub arc_in : a < length m.arcs
      pub from : comers_before m p a t ≤ i
      pub until : i < comers_before m p a t + brought m p a t

    pub record Enters (n t i : ℕ) : Type 0 where
      pub from : entrants_before m p n t ≤ i
      pub until : i < entrants_before m p n t + entry m n t

    picked_to : (a n : ℕ) → head m a ≡ n → to_node m n a ≡ true
    picked_to a n e = eq-eqb (head m a) n e

    before_entrants : (a t i : ℕ) → Comes a t i → i < entrants_before m p (head m a) t
    unfolding comers_before entrants_before
    before_entrants a t i h = grind (arith, coming_is, part_ends, picked_to)

    pub comes_then : (a t i : ℕ) → Comes a t i → IsCountedAt (came m p (head m a)) i t
    unfolding comers_before entrants_before
    comes_then a t i h =
        let n = head m a in
        record { not_before = omega arith; by_then = omega (arith, came_is n t, before_entrants a t i h) }

    pub enters_then : (n t i : ℕ) → Enters n t i → IsCountedAt (came m p n) i t
    unfolding entrants_before
    enters_then n t i h = grind (arith, came_is)

    pub one_comer : (a b t u i : ℕ) → head m a ≡ head m b → Comes a t i → Comes b u i → (a ≡ b) × (t ≡ u)
    unfolding comers_before
    one_comer a b t u i e g h =
        let n = head m b in
        let there : IsCountedAt (came m p n) i t = subst (λ (x : ℕ). IsCountedAt (came m p x) i t) e (comes_then a t i g) in
        let moments : t ≡ u = one_moment (came m p n) i t u (came_grows n) there (comes_then b u i h) in
        let C : ℕ → ℕ → ℕ = λ x s. count_before (came m p x) s + part (to_node m x) (comes_at m p s) a in
        let first : C (head m a) t ≡ C n u = ap (λ x. C x t) e ∙ ap (λ s. C n s) moments in
        let people : brought m p a t ≡ brought m p a u = ap (λ s. brought m p a s) moments in
        let low' = h.from in
        let high' = h.until in
        let o = i - count_before (came m p n) u in (
          one_part (to_node m n) (comes_at m p u) a b o (picked_to a n e) (picked_to b n refl)
              (omega (arith, first)) (omega (arith, first, people)) (omega (arith, low')) (omega (arith, low', high')),
          moments,
        )

    pub one_entry : (n t u i : ℕ) → Enters n t i → Enters n u i → t ≡ u
    one_entry n t u i g h = one_moment (came m p n) i t u (came_grows n) (enters_then n t i g) (enters_then n u i h)

    -- nobody comes both by an arc and from nowhere
    pub apart : (a n t u i : ℕ) → head m a ≡ n → Comes a t i → Enters n u i → ⊥
    apart a n t u i e g h =
        let there : IsCountedAt (came m p n) i t = subst (λ (x : ℕ). IsCountedAt (came m p x) i t) e (comes_then a t i g) in
        let moments : t ≡ u = one_moment (came m p n) i t u (came_grows n) there (enters_then n u i h) in
        let same : entrants_before m p (head m a) t ≡ entrants_before m p n u = ap (λ x. entrants_before m p x t) e ∙ ap (λ s. entrants_before m p n s) moments in
        omega (arith, before_entrants a t i g, same)

    -- whoever comes to a node at a moment comes by an arc that was entered before, or from nowhere
    pub record ComesBy (n s i : ℕ) : Type 0 where
      pub arc : ℕ
      pub moment : ℕ
      pub to : head m arc ≡ n
      pub arrives : arrival m arc moment ≡ s
      pub comes : Comes arc s i

    pub has_come : (n s i : ℕ) → IsCountedAt (came m p n) i s → ComesBy n s i ⊎ Enters n s i
    unfolding comers_before entrants_before
    has_come n s i at = split (cases_lt i (entrants_before m p n s))
      where
        by_arc : (h : HasPart (to_node m n) (comes_at m p s) (length m.arcs) (i - count_before (came m p n) s)) → ComesBy n s i
        by_arc h =
            let a = h.place in
            let e : head m a ≡ n = eqb-true (head m a) n h.picked in
            let C : ℕ → ℕ = λ x. count_before (came m p x) s + part (to_node m x) (comes_at m p s) a in
            let first : C (head m a) ≡ C n = ap C e in
            let from = h.from in
            let until = h.until in
            let d = (arc_at m a).travel in
            let late : d ≤ s = grind (arith, brought_none a s, from, until) in
            record {
              arc = a;
              moment = s - d;
              to = e;
              arrives = omega arith;
              comes = record { arc_in = h.place_in; from = omega (arith, first, from); until = omega (arith, first, until) };
            }

        split : (i < entrants_before m p n s) ⊎ (entrants_before m p n s ≤ i) → ComesBy n s i ⊎ Enters n s i
        split (inl l) = grind (arith, by_arc, has_part, coming_is)
        split (inr l) = inr (record { from = l; until = omega (arith, came_is n s) })
