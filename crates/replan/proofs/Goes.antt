-- Moves after those made before a moment: feasible in the building exactly where they are in what is left of it.
use Rattle.std.proofs.Common.{◌≡◌, ℕ, ◌+◌, ◌-◌, ◌<◌, ◌≤◌, List, length, get_or, ap, sym, ◌∙◌, ◌⊎◌, inl, inr, arith, IsFalse, pos, ◌≤ℤ◌, ◌↔◌}
use Rattle.std.proofs.lemmas.List.Elements.{All-weaker}
use Rattle.std.proofs.lemmas.Bool.{cases_lt}
use Rattle.std.proofs.lemmas.Int.{ints}
use Rattle.evac_law.specs.declared.model.ArcRow.{ArcRow}
use Rattle.evac_law.specs.declared.model.Model.{Model}
use Rattle.evac_law.specs.declared.plan.Move.{Move}
use Rattle.evac_law.specs.Building.{IsValid, capacity, entry, is_exit_at, rate}
use Rattle.evac_law.specs.Plans.{IsFeasible, TakesAllOut, came, held, left, moved}
use Rattle.evac_law.specs.Sums.{moments_to}
use Rattle.evac_law.proofs.SumLemmas.{sum_by-same_all}
use Rattle.replan.specs.Committed.{moves_from}
use Rattle.replan.specs.Rest.{rest_entry}
use Rattle.replan.proofs.Parted.{IsBehind, IsLate, arrived_behind, arrived_none, came_is, from_late, left_behind, left_none, moved_none, moved_over, moves_behind, own_behind}
use Rattle.replan.proofs.Shifted.{IsLeft, held_shifts, nothing_to, rest_none, same_arrived, same_left, same_rate}

module _ (m m' : Model) (p r w : List Move) (s : ℕ) (valid : IsValid m) (in_horizon : s ≤ m.horizon) (all : TakesAllOut m p)
    (late : IsLate s r) (of : IsLeft m p s m') (behind : IsBehind m p s r w) where
  -- from s on as many are held
  after : (n d : ℕ) → n < length m.nodes → IsFalse (is_exit_at m n)
      → came m' r n (s + d) + left m w n (s + d) ≡ came m w n (s + d) + left m' r n (s + d)
  after n d i e =
      omega (
        arith,
        came_is m' r n (s + d),
        sum_by-same_all (entry m' n) (rest_entry m p s n) (moments_to (s + d)) (λ j f l. of.entries n (get_or (moments_to (s + d)) j f) i),
        same_arrived m m' r n (s + d) of.arcs,
        same_left m m' r n (s + d) of.arcs,
        held_shifts m p s valid in_horizon all n i e r w d behind,
      )

  pub held_after : (n t : ℕ) → n < length m.nodes → IsFalse (is_exit_at m n) → s ≤ t → held m' r n t ≡ held m w n t
  unfolding held
  held_after n t i e l =
      let same : s + (t - s) ≡ t = omega arith in
      let balance = rw same at (after n (t - s) i e) in
      omega (arith, ints, balance)

  own : IsBehind m p s (moves_from s p) p
  own = own_behind m p s all.feasible.arcs

  -- before s nobody is in the rest, and the whole does what the plan did
  held_none : (n t : ℕ) → n < length m.nodes → t < s → held m' r n t ≡ pos 0
  unfolding held
  held_none n t i l =
      omega (
        arith,
        ints,
        came_is m' r n t,
        nothing_to (entry m' n) t (λ j k. of.entries n j i ∙ rest_none m p s n j (inr (omega (arith, k, l)))),
        same_arrived m m' r n t of.arcs,
        same_left m m' r n t of.arcs,
        arrived_none m r n s t late l,
        left_none m r n s t late l,
      )

  held_before : (n t : ℕ) → t < s → held m w n t ≡ held m p n t
  unfolding held
  held_before n t l =
      omega (
        arith,
        ints,
        came_is m w n t,
        came_is m p n t,
        arrived_behind m p r w s behind n t,
        arrived_behind m p (moves_from s p) p s own n t,
        arrived_none m r n s t late l,
        arrived_none m (moves_from s p) n s t (from_late s p) l,
        left_behind m p r w s behind n t,
        left_behind m p (moves_from s p) p s own n t,
        left_none m r n s t late l,
        left_none m (moves_from s p) n s t (from_late s p) l,
      )

  moved_after : (a t : ℕ) → s ≤ t → moved w a t ≡ moved r a t
  moved_after a t l = omega (arith, moves_behind m p r w s behind a t, moved_over p a s t l)

  pub moved_before : (a t : ℕ) → t < s → moved w a t ≡ moved p a t
  moved_before a t l =
      omega (
        arith,
        moves_behind m p r w s behind a t,
        moves_behind m p (moves_from s p) p s own a t,
        moved_none r a s t late l,
        moved_none (moves_from s p) a s t (from_late s p) l,
      )

  as_many : length m'.arcs ≡ length m.arcs
  as_many = ap (λ (l : List ArcRow). length l) of.arcs

  -- what keeps the rates and the capacities in the whole keeps them in the rest, and the other way round
  in_rest : (k : ℕ) → IsFeasible m w k → IsFeasible m' r k
  in_rest k h = record {
    arcs = All-weaker (λ v. v.arc < length m.arcs) (λ v. v.arc < length m'.arcs) (λ v l. omega (arith, l, as_many))
        r (behind.arcs.0 h.arcs);
    rates = λ a t i l. by_rate a t (omega (arith, i, as_many)) l (cases_lt t s);
    holds = λ n t i e l. by_hold n t (omega (arith, i, of.size)) (sym (of.exits n) ∙ e) l (cases_lt t s);
  }
    where
      by_rate : (a t : ℕ) → a < length m.arcs → t ≤ k → (t < s) ⊎ (s ≤ t) → moved r a t ≤ rate m' a t
      by_rate a t i l (inl before) = omega (arith, moved_none r a s t late before)
      by_rate a t i l (inr since) = omega (arith, same_rate a t of, moved_after a t since, h.rates a t i l)

      by_hold : (n t : ℕ) → n < length m.nodes → IsFalse (is_exit_at m n) → t ≤ k → (t < s) ⊎ (s ≤ t)
          → (pos 0 ≤ℤ held m' r n t) × (held m' r n t ≤ℤ pos (capacity m' n))
      by_hold n t i e l (inl before) = rw (held_none n t i before) (omega (arith, ints), omega (arith, ints))
      by_hold n t i e l (inr since) = rw (held_after n t i e since, of.rooms n) (h.holds n t i e l)

  in_whole : (k : ℕ) → IsFeasible m' r k → IsFeasible m w k
  in_whole k h = record {
    arcs = behind.arcs.1
        (All-weaker (λ v. v.arc < length m'.arcs) (λ v. v.arc < length m.arcs) (λ v l. omega (arith, l, as_many)) r h.arcs);
    rates = λ a t i l. by_rate a t i l (cases_lt t s);
    holds = λ n t i e l. by_hold n t i e l (cases_lt t s);
  }
    where
      by_rate : (a t : ℕ) → a < length m.arcs → t ≤ k → (t < s) ⊎ (s ≤ t) → moved w a t ≤ rate m a t
      by_rate a t i l (inl before) = omega (arith, moved_before a t before, all.feasible.rates a t i (omega arith))
      by_rate a t i l (inr since) = omega (arith, same_rate a t of, moved_after a t since, h.rates a t (omega (arith, i, as_many)) l)

      by_hold : (n t : ℕ) → n < length m.nodes → IsFalse (is_exit_at m n) → t ≤ k → (t < s) ⊎ (s ≤ t)
          → (pos 0 ≤ℤ held m w n t) × (held m w n t ≤ℤ pos (capacity m n))
      by_hold n t i e l (inl before) = rw (held_before n t before) (all.feasible.holds n t i e (omega arith))
      by_hold n t i e l (inr since) =
          let fits = rw (held_after n t i e since, of.rooms n) at (h.holds n t (omega (arith, i, of.size)) (of.exits n ∙ e) l) in fits

  pub feasible_both : (k : ℕ) → IsFeasible m w k ↔ IsFeasible m' r k
  feasible_both k = (in_rest k, in_whole k)
