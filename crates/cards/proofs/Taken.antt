-- Two lists of moves with the same table: each is an evacuation where the other is. And the list of a table.
use Rattle.std.proofs.Common.{◌≡◌, ℕ, ◌+◌, ◌<◌, ◌≤◌, Bool, cond, ◌&&◌, eqb, leb, ltb, List, length, get_or, ap, ap₂, sym, ◌∙◌, arith, subst, pos, ℤ, ◌-ℤ◌, ◌≤ℤ◌}
use Rattle.std.specs.List.{sum_by}
use Rattle.std.proofs.lemmas.Bool.Decides.{nat_tests}
use Rattle.evac_law.specs.declared.model.Model.{Model}
use Rattle.evac_law.specs.declared.plan.Move.{Move}
use Rattle.evac_law.specs.Building.{arrival, capacity, entry, head, is_exit_at, rate, tail}
use Rattle.evac_law.specs.Plans.{came, held, left, moved, out_by}
use Rattle.evac_law.specs.Stands.{Fits, Stand, Stands}
use Rattle.evac_law.specs.Sums.{moments_to}
use Rattle.evac_law.proofs.MoveLemmas.{moved-moves_of, ordered-moves_of}
use Rattle.evac_law.specs.Moves.{moves_of}
use Rattle.evac_law.proofs.SumLemmas.{gather, sum2, sum2-same, sum_by-same_all}
use Rattle.cards.specs.Laws.{IsEvacuation}
use Rattle.cards.proofs.Ranges.{AreInRange, in_range_of, none_late, none_past}

in_time_test : (b : Bool) (s h w : ℕ) → s ≤ h → cond (ltb s (h + 1) && b) w 0 ≡ cond b w 0
in_time_test b s h w l = grind (arith, nat_tests)

-- a sum over the moves that a test picks is one over the table
module _ (m : Model) (p q : List Move) (f : AreInRange m p) (g : AreInRange m q) (same : (a t : ℕ) → moved p a t ≡ moved q a t) where
  pub picked_same : (b : ℕ → ℕ → Bool) → sum_by (λ (v : Move). cond (b v.arc v.moment) v.people 0) p ≡ sum_by (λ (v : Move). cond (b v.arc v.moment) v.people 0) q
  unfolding moved
  picked_same b =
      sym (over b p f)
      ∙ sum2-same (length m.arcs) (m.horizon + 1) _ _ (λ a t. ap (λ z. cond (b a t) z 0) (same a t))
      ∙ over b q g
    where
      over : (b : ℕ → ℕ → Bool) (r : List Move) → AreInRange m r
          → sum2 (length m.arcs) (m.horizon + 1) (λ a t. cond (b a t) (sum_by (λ (v : Move). cond (eqb v.arc a && eqb v.moment t) v.people 0) r) 0)
          ≡ sum_by (λ (v : Move). cond (b v.arc v.moment) v.people 0) r
      over b r h =
          gather (λ (v : Move). v.arc) (λ v. v.moment) (λ v. v.people) b (length m.arcs) (m.horizon + 1) r h.arcs
          ∙ sum_by-same_all (λ (v : Move). cond (ltb v.moment (m.horizon + 1) && b v.arc v.moment) v.people 0) (λ v. cond (b v.arc v.moment) v.people 0) r
          (λ i d l. let v = get_or r i d in in_time_test (b v.arc v.moment) v.moment m.horizon v.people (h.in_time i d l))

  pub came_same : (n t : ℕ) → came m p n t ≡ came m q n t
  unfolding came
  came_same n t = ap (λ z. sum_by (entry m n) (moments_to t) + z) (picked_same (λ a s. eqb (head m a) n && leb (arrival m a s) t))

  pub left_same : (n t : ℕ) → left m p n t ≡ left m q n t
  unfolding left
  left_same n t = picked_same (λ a s. eqb (tail m a) n && leb s t)

  pub out_same : (k : ℕ) → out_by m p k ≡ out_by m q k
  unfolding out_by
  out_same k = picked_same (λ a s. is_exit_at m (head m a) && leb (arrival m a s) k)

  held_same : (n t : ℕ) → held m p n t ≡ held m q n t
  unfolding held
  held_same n t = ap₂ (λ x y. pos x -ℤ pos y) (came_same n t) (left_same n t)

  pub evacuates_too : IsEvacuation m p → IsEvacuation m q
  evacuates_too h = record {
    valid = h.valid;
    plan = record {
      feasible = record {
        arcs = g.arcs;
        rates = λ a t l k. subst (λ (x : ℕ). x ≤ rate m a t) (same a t) (h.plan.feasible.rates a t l k);
        holds = λ n t l e k. subst (λ (z : ℤ). (pos 0 ≤ℤ z) × (z ≤ℤ pos (capacity m n))) (held_same n t) (h.plan.feasible.holds n t l e k);
      };
      all_out = sym (out_same m.horizon) ∙ h.plan.all_out;
    };
    in_time = g.in_time;
  }

-- ---- the list of a table that has the moves of a plan

-- the moves of a plan that is kept are in range
pub stand_in_range : (m : Model) (f : Stand) → Fits m f → AreInRange m f.plan
stand_in_range m f fits = grind (arith, in_range_of)

pub stand_evacuates : (m : Model) (f : Stand) → Stands m f → IsEvacuation m f.plan
stand_evacuates m f h = record { valid = h.valid; plan = h.plan; in_time = (stand_in_range m f h.fits).in_time }

module _ (m : Model) (f : ℕ → ℕ → ℕ) where
  abbrev list_of : List Move
  list_of = moves_of (length m.arcs) m.horizon f

  list_in_range : AreInRange m list_of
  list_in_range = in_range_of m list_of (ordered-moves_of (length m.arcs) m.horizon f).in_range

  pub list_moves : (p : List Move) → AreInRange m p → ((a t : ℕ) → a < length m.arcs → t ≤ m.horizon → f a t ≡ moved p a t) → (a t : ℕ)
      → moved list_of a t ≡ moved p a t
  list_moves p range same a t =
      grind (
        arith,
        moved-moves_of (length m.arcs) m.horizon f a t,
        same a t,
        none_late m list_of list_in_range a t,
        none_late m p range a t,
        none_past m list_of list_in_range a t,
        none_past m p range a t,
      )
