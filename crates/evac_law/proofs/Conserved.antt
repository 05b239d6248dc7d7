-- Where everybody is out, nobody is inside, on an arc or still to come.
use Rattle.std.proofs.Common.{◌≡◌, ℕ, ◌+◌, ◌<◌, ◌≤◌, Bool, false, cond, not, ◌&&◌, eqb, leb, List, length, arith, IsFalse}
use Rattle.std.specs.List.{sum_by}
use Rattle.std.proofs.lemmas.List.Elements.{All-weaker}
use Rattle.std.proofs.lemmas.List.Sums.{get_or-le-sum_by}
use Rattle.std.proofs.lemmas.Bool.{cases_lt, le-leb, lt-leb, not-true}
use Rattle.std.proofs.lemmas.Bool.Decides.{nat_tests}
use Rattle.std.proofs.lemmas.Int.{ints}
use Rattle.evac_law.specs.declared.model.Model.{Model}
use Rattle.evac_law.specs.declared.plan.Move.{Move}
use Rattle.evac_law.specs.Sums.{moments_to, places}
use Rattle.evac_law.specs.Building.{IsValid, arc_at, arrival, capacity, entered_by, entry, head, is_exit_at, people, tail}
use Rattle.evac_law.specs.Plans.{IsFeasible, NobodyIsLeft, came, held, left, out_by}
use Rattle.evac_law.proofs.Entries.{entered_le}
use Rattle.evac_law.proofs.SumLemmas.{All-below, by_place, cond_le, cond_mono, split_cond, sum_below-le_back, sum_by-add, sum_by-le_all, sum_by-same, sum_by-same_all, sum_moments-le, sum_moments-more}
use Rattle.evac_law.proofs.ValidLemmas.{arc_is, head_in, tail_in}
use Rattle.evac_law.proofs.WeakDuality.{within}

-- one move by k leaves a node that is no exit, and has arrived inside, is out or is on its way
one_move : (exit from_exit : Bool) (s d k p : ℕ) → from_exit ≡ false
    → cond (not from_exit && leb s k) p 0
    ≡ (cond (not exit && leb (s + d) k) p 0 + cond (exit && leb (s + d) k) p 0) + cond (leb s k && not (leb (s + d) k)) p 0
one_move exit from_exit s d k p e = grind (arith, nat_tests)

module _ (m : Model) (p : List Move) (k : ℕ) (valid : IsValid m) (feasible : IsFeasible m p k) (all_out : out_by m p k ≡ people m) where
  abbrev inside : ℕ → Bool
  inside n = not (is_exit_at m n)

  -- over the nodes inside: who has come in, who has come, who has left
  abbrev came_in : ℕ → ℕ
  came_in n = cond (inside n) (sum_by (entry m n) (moments_to k)) 0

  abbrev came_to : ℕ → ℕ
  came_to n = cond (inside n) (came m p n k) 0

  abbrev left_from : ℕ → ℕ
  left_from n = cond (inside n) (left m p n k) 0

  -- over the moves: who has arrived inside, who has left by k, who is on the way then
  abbrev arrived : Move → ℕ
  arrived v = cond (inside (head m v.arc) && leb (arrival m v.arc v.moment) k) v.people 0

  abbrev gone : Move → ℕ
  gone v = cond (inside (tail m v.arc) && leb v.moment k) v.people 0

  abbrev on_way : Move → ℕ
  on_way v = cond (leb v.moment k && not (leb (arrival m v.arc v.moment) k)) v.people 0

  came_is : sum_by came_to (places m.nodes) ≡ sum_by came_in (places m.nodes) + sum_by arrived p
  unfolding came
  came_is =
      let along = λ (n : ℕ). sum_by (λ v. cond (eqb (head m v.arc) n && leb (arrival m v.arc v.moment) k) v.people 0) p in
      omega (
        arith,
        sum_by-same came_to (λ n. came_in n + cond (inside n) (along n) 0) (places m.nodes)
            (λ n. split_cond (inside n) (sum_by (entry m n) (moments_to k)) (along n)),
        sum_by-add came_in (λ n. cond (inside n) (along n) 0) (places m.nodes),
        by_place inside (λ v. head m v.arc) (λ v. v.people) (λ n v. leb (arrival m v.arc v.moment) k) (length m.nodes) p
            (All-weaker (λ v. v.arc < length m.arcs) (λ v. head m v.arc < length m.nodes) (λ v l. head_in m v.arc valid l) p feasible.arcs),
      )

  left_is : sum_by left_from (places m.nodes) ≡ sum_by gone p
  unfolding left
  left_is =
      by_place inside (λ v. tail m v.arc) (λ v. v.people) (λ n v. leb v.moment k) (length m.nodes) p
      (All-weaker (λ v. v.arc < length m.arcs) (λ v. tail m v.arc < length m.nodes) (λ v l. tail_in m v.arc valid l) p feasible.arcs)

  moves : sum_by gone p ≡ (sum_by arrived p + out_by m p k) + sum_by on_way p
  unfolding out_by
  moves =
      let outs = λ (v : Move). cond (is_exit_at m (head m v.arc) && leb (arrival m v.arc v.moment) k) v.people 0 in
      omega (
        arith,
        sum_by-same_all gone (λ v. (arrived v + outs v) + on_way v) p
            (All-weaker (λ v. v.arc < length m.arcs) (λ v. gone v ≡ (arrived v + outs v) + on_way v)
            (λ v l. one_move (is_exit_at m (head m v.arc)) (is_exit_at m (tail m v.arc)) v.moment (arc_at m v.arc).travel k v.people
            (arc_is m v.arc valid l).from_no_exit) p feasible.arcs),
        sum_by-add (λ v. arrived v + outs v) on_way p,
        sum_by-add arrived outs p,
      )

  came_in_le : sum_by came_in (places m.nodes) ≤ entered_by m k
  unfolding entered_by
  came_in_le = grind (arith, sum_by-le_all, cond_le)

  fits : (n : ℕ) → n < length m.nodes → IsFalse (is_exit_at m n) → left m p n k ≤ came m p n k
  fits n i e = (within m p n k (capacity m n) (feasible.holds n k i e (omega arith))).0

  left_le : (n : ℕ) → n < length m.nodes → left_from n ≤ came_to n
  left_le n i = cond_mono (inside n) (left m p n k) (came m p n k) (λ e. fits n i (not-true _ e))

  left_all : sum_by left_from (places m.nodes) ≤ sum_by came_to (places m.nodes)
  left_all = sum_by-le_all left_from came_to (places m.nodes) (All-below _ (length m.nodes) left_le)

  came_back : sum_by came_to (places m.nodes) ≤ sum_by left_from (places m.nodes)
  came_back = omega (arith, all_out, came_is, left_is, moves, came_in_le, entered_le m k)

  nobody_on_way : sum_by on_way p ≡ 0
  nobody_on_way = omega (arith, all_out, came_is, left_is, moves, came_in_le, entered_le m k, left_all)

  everybody_came : people m ≤ entered_by m k
  everybody_came = omega (arith, all_out, came_is, left_is, moves, came_in_le, left_all)

  same_at : (n : ℕ) → n < length m.nodes → IsFalse (is_exit_at m n) → came m p n k ≤ left m p n k
  same_at n i e =
      let back = sum_below-le_back left_from came_to (length m.nodes) left_le came_back n i in
      rw e at back

  none_later : (n t : ℕ) → n < length m.nodes → k < t → entry m n t ≡ 0
  unfolding entered_by
  none_later n t i l =
      let by = λ (j i : ℕ). sum_by (entry m i) (moments_to j) in
      let back = sum_below-le_back (by k) (by t) (length m.nodes) (λ i h. sum_moments-le (entry m i) k t (omega arith))
      (omega (arith, everybody_came, entered_le m t)) n i in
      omega (arith, back, sum_moments-more (entry m n) k t l)

  arrives : (v : Move) → on_way v ≤ 0 → 0 < v.people → v.moment ≤ k → arrival m v.arc v.moment ≤ k
  arrives v none some by = grind (arith, cases_lt, le-leb, lt-leb)

  pub all_out_leaves_nobody : NobodyIsLeft m p k
  unfolding held
  all_out_leaves_nobody = grind (arith, fits, same_at, ints, nobody_on_way, arrives, get_or-le-sum_by, none_later)
