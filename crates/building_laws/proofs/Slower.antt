-- A cut that has each node from a moment of its own on is worth no more where walks are longer.
use Rattle.std.proofs.Common.{◌≡◌, ℕ, ◌+◌, ◌≤◌, Bool, true, not, ◌&&◌, ◌||◌, leb, List, length, get_or, ap, ap₂, sym, ◌∙◌, subst, arith, inl, inr}
use Rattle.std.specs.List.{sum_by}
use Rattle.std.proofs.lemmas.Bool.Decides.{nat_tests}
use Rattle.evac_law.specs.declared.model.Model.{Model}
use Rattle.evac_law.specs.declared.plan.Move.{Move}
use Rattle.evac_law.specs.Building.{IsValid, arc_at, entry, head, is_exit_at, no_node, people, tail}
use Rattle.evac_law.specs.Cuts.{Cut, cut_value, leaves_cut}
use Rattle.evac_law.specs.Names.{is_exit}
use Rattle.evac_law.specs.Plans.{IsFeasible, out_by}
use Rattle.evac_law.proofs.WeakDuality.{out_le_value}
use Rattle.building_laws.specs.Rooms.{HasRoomForEntries, HasSteadyRates}
use Rattle.building_laws.specs.Slower.{IsNoBetter, IsSlower}
use Rattle.building_laws.proofs.Duality.{cleared_or_short, cut_of}
use Rattle.building_laws.proofs.Values.{value_le}
use Rattle.building_laws.proofs.WaitingCut.{from_moments, moments_outside, waiting_cut}

-- who leaves the cut by a longer walk leaves it by a shorter one
longer : (exit : Bool) (f g d d' k t : ℕ) → d ≤ d' → (leb f t && (leb (t + d') k && (exit || not (leb g (t + d'))))) ≡ true
    → (leb f t && (leb (t + d) k && (exit || not (leb g (t + d))))) ≡ true
longer exit f g d d' k t l e = grind (arith, nat_tests)

in_time : (u v : Bool) (t d k : ℕ) → (u && (leb (t + d) k && v)) ≡ true → t ≤ k
in_time u v t d k e = grind (arith, nat_tests)

module _ (m m' : Model) (s : IsSlower m m') where
  entry_same : (n t : ℕ) → entry m n t ≡ entry m' n t
  entry_same n t = ap₂ (λ ns es. entry (record m { nodes = ns; entrants = es }) n t) s.nodes s.entrants

  exit_same : (n : ℕ) → is_exit_at m n ≡ is_exit_at m' n
  exit_same n = ap (λ l. is_exit (get_or l n no_node).name.kind) s.nodes

  people_same : people m ≡ people m'
  unfolding people
  people_same = ap₂ (λ ns es. sum_by (λ n. n.start) ns + sum_by (λ e. e.people) es) s.nodes s.entrants

  module _ (f : ℕ → ℕ) (k : ℕ) (l : k ≤ m.horizon) where
    -- the same of the ends that the first model names
    same_ends : (t a : ℕ) → leaves_cut m' (from_moments f) k t a
        ≡ (leb (f (tail m a)) t && (leb (t + (arc_at m' a).travel) k && (is_exit_at m (head m a) || not (leb (f (head m a)) (t + (arc_at m' a).travel)))))
    same_ends t a = grind (arith, exit_same)

    value_less : cut_value m' (from_moments f) k ≤ cut_value m (from_moments f) k
    value_less =
        value_le m m' (from_moments f) k
        (record {
          places = ap length s.nodes;
          arcs = s.arcs;
          entries = λ n t i o. omega (arith, entry_same n t);
          holds = λ n t i e. omega (arith, ap (λ ns. (get_or ns n no_node).capacity) s.nodes);
          leaves = λ a t i e.
              let there = sym (same_ends t a) ∙ e in
              let before = in_time (leb (f (tail m a)) t) (is_exit_at m (head m a) || not (leb (f (head m a)) (t + (arc_at m' a).travel))) t (arc_at m' a).travel k there in (
                longer (is_exit_at m (head m a)) (f (tail m a)) (f (head m a)) (arc_at m a).travel (arc_at m' a).travel k t (s.travels a) there,
                s.rates a t (omega (arith, i, s.arcs)) (omega (arith, before, l)),
              );
        })

  module _ (valid : IsValid m) (valid' : IsValid m') (steady : HasSteadyRates m) (room : HasRoomForEntries m) where
    bound : (q : List Move) (x : Cut) (k : ℕ) → k ≤ m.horizon → IsFeasible m' q k → out_by m' q k ≤ cut_value m x k
    bound q x k l feasible =
        let f = moments_outside x k in
        omega (arith, out_le_value m' (from_moments f) q k valid' feasible, value_less f k l, waiting_cut m x k l steady room)

    pub slower_is_no_better : IsNoBetter m m'
    slower_is_no_better = record {
      curve = λ p q k l best feasible. let x = cut_of m p k valid l best in omega (arith, bound q x.0 k l feasible, x.1);
      clears = λ plan. elim (cleared_or_short m valid room) [
        | inl cleared ↦ cleared
        | inr short ↦
            absurd (omega (
              arith,
              plan.2,
              people_same,
              bound plan.0 short.0 m.horizon (omega arith) (subst (IsFeasible m' plan.0) (sym s.horizon) plan.1),
              ap (out_by m' plan.0) s.horizon,
              short.1,
            ))
      ];
    }
