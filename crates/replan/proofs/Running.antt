-- Who is out by a moment, by the moves made, counted moment by moment.
use Rattle.std.proofs.Common.{◌≡◌, ℕ, ◌+◌, ◌<◌, ◌≤◌, ◌^◌, eqb, List, [], ◌∷◌, ◌++◌, length, get_or, sym, subst, ◌∙◌, inl, inr, arith}
use Rattle.std.specs.List.{All, sum_by}
use Rattle.std.proofs.Math.Seq.{get_or-append_seam}
use Rattle.std.proofs.lemmas.Bool.{cases_lt}
use Rattle.std.proofs.lemmas.List.{get_or_append_left}
use Rattle.std.proofs.lemmas.List.Elements.{All-weaker}
use Rattle.evac_law.specs.declared.model.Model.{Model}
use Rattle.evac_law.specs.declared.plan.Move.{Move}
use Rattle.evac_law.specs.Building.{IsValid, arrival, head, is_exit_at, people}
use Rattle.evac_law.specs.Limits.{people_limit}
use Rattle.evac_law.specs.Plans.{TakesAllOut, coming}
use Rattle.evac_law.specs.Sums.{below, moments_to, places}
use Rattle.evac_law.proofs.Curve.{arriving, out_is_sum}
use Rattle.evac_law.proofs.Optimal.{out_le_out}
use Rattle.evac_law.proofs.SumLemmas.{by_place, sum_below-more, sum_by-same}
use Rattle.evac_law.proofs.ValidLemmas.{head_in}
use Rattle.replan.specs.Committed.{gone_by, moves_before, moves_from}
use Rattle.replan.specs.Standing.{coming_out}
use Rattle.replan.proofs.Parted.{All-made, outs_behind, own_behind}

-- the people who come to the exits at a moment along arcs
abbrev pub arriving_at : Model → List Move → ℕ → ℕ
arriving_at m p t = sum_by (coming_out m p t) (places m.nodes)

-- they are those of the moves that arrive there then
arriving_is : {m : Model} (p : List Move) (t : ℕ) → IsValid m → All (λ v. v.arc < length m.arcs) p → arriving m p t ≡ arriving_at m p t
unfolding arriving coming
arriving_is {m} p t valid arcs =
    sym (by_place (is_exit_at m) (λ v. head m v.arc) (λ v. v.people) (λ n v. eqb (arrival m v.arc v.moment) t) (length m.nodes) p
    (All-weaker (λ v. v.arc < length m.arcs) (λ v. head m v.arc < length m.nodes) (λ v l. head_in m v.arc valid l) p arcs))

module _ (m : Model) (p : List Move) (s : ℕ) (valid : IsValid m) (all : TakesAllOut m p) where
  -- one moment more
  pub running : (t so_far more : ℕ) → so_far ≡ sum_by (arriving_at m (moves_before s p)) (below t) → more ≡ arriving_at m (moves_before s p) t
      → so_far + more ≡ gone_by m p s t
  running t so_far more a b =
      let made = moves_before s p in
      omega (
        arith,
        a,
        b,
        out_is_sum m made t,
        sum_by-same (arriving m made) (arriving_at m made) (moments_to t) (λ k. arriving_is made k valid (All-made (λ v. v.arc < length m.arcs) s p all.feasible.arcs)),
        sum_below-more (arriving_at m made) t,
      )

  -- those who are gone, and more, are few
  pub gone_fits : (t x so_far more : ℕ) → t ≤ m.horizon → x + people m ≤ people_limit → so_far ≡ sum_by (arriving_at m (moves_before s p)) (below t)
      → more ≡ arriving_at m (moves_before s p) t → x + (so_far + more) < 2 ^ 31
  unfolding people_limit
  gone_fits t x so_far more l few a b =
      omega (arith, few, running t so_far more a b, outs_behind m p (moves_from s p) p s (own_behind m p s all.feasible.arcs) t, out_le_out m p t m.horizon l, all.all_out)

-- a list in which one element more has its addend
pub pushed : (gone after : List ℕ) (f : ℕ → ℕ) (w t : ℕ) → length after ≡ t → ((k : ℕ) → k < t → get_or after k 0 ≡ get_or gone k 0 + f k)
    → w ≡ get_or gone t 0 + f t → (k : ℕ) → k < t + 1 → get_or (after ++ w ∷ []) k 0 ≡ get_or gone k 0 + f k
pushed gone after f w t long done last k l = elim (cases_lt k t) [
  | inl less ↦ get_or_append_left after (w ∷ []) 0 k (omega (arith, less, long)) ∙ done k less
  | inr more ↦
      let here : k ≡ t = omega arith in
      let at_end : get_or (after ++ w ∷ []) t 0 ≡ w =
      subst (λ (i : ℕ). get_or (after ++ w ∷ []) i 0 ≡ w) long (get_or-append_seam after w [] 0) in
      rw here (at_end ∙ last)
]
