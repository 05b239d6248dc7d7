-- Nobody is lost: those who are out by the moves made, and those who come into the rest, are the people of the building.
use Rattle.std.proofs.Common.{◌≡◌, ℕ, ◌+◌, ◌-◌, ◌<◌, ◌≤◌, ◌^◌, Bool, true, false, cond, not, ◌&&◌, leb, List, length, get_or, refl, inl, arith}
use Rattle.std.specs.List.{All, sum_by}
use Rattle.std.proofs.lemmas.List.Elements.{All-weaker}
use Rattle.std.proofs.lemmas.Bool.Decides.{nat_tests}
use Rattle.evac_law.specs.declared.model.Model.{Model}
use Rattle.evac_law.specs.declared.plan.Move.{Move}
use Rattle.evac_law.specs.Building.{IsValid, arc_at, arrival, entered_by, entry, head, is_exit_at, people, tail}
use Rattle.evac_law.specs.Limits.{people_limit}
use Rattle.evac_law.specs.Plans.{TakesAllOut, left, out_by}
use Rattle.evac_law.specs.Sums.{moments_to, places}
use Rattle.evac_law.proofs.Conserved.{all_out_leaves_nobody}
use Rattle.evac_law.proofs.Entries.{entered_all, exit_entry}
use Rattle.evac_law.proofs.SumLemmas.{All-below, by_place, pick_le, sum_by-add, sum_by-nothing, sum_by-same, sum_by-same_all}
use Rattle.evac_law.proofs.ValidLemmas.{arc_is, head_in, tail_in}
use Rattle.replan.specs.Committed.{moves_before}
use Rattle.replan.specs.Rest.{rest_entry}
use Rattle.replan.proofs.Parted.{All-made, arrived}
use Rattle.replan.proofs.Shifted.{rest_none, shifted}

-- a move that has arrived by k is inside then, or out
one_done : (exit from_exit : Bool) (s d k p : ℕ) → from_exit ≡ false → (0 < p → s ≤ k → s + d ≤ k)
    → cond (not from_exit && leb s k) p 0 ≡ cond (not exit && leb (s + d) k) p 0 + cond (exit && leb (s + d) k) p 0
one_done exit from_exit s d k p e h = grind (arith, nat_tests)

module _ (m : Model) (p : List Move) (s : ℕ) (valid : IsValid m) (in_horizon : s ≤ m.horizon) (all : TakesAllOut m p) where
  abbrev made : List Move
  made = moves_before s p

  abbrev is_inside : ℕ → Bool
  is_inside n = not (is_exit_at m n)

  in_range : All (λ v. v.arc < length m.arcs) made
  in_range = All-made (λ v. v.arc < length m.arcs) s p all.feasible.arcs

  pub arrives : All (λ v. 0 < v.people → v.moment ≤ m.horizon → arrival m v.arc v.moment ≤ m.horizon) made
  arrives =
      All-made (λ v. 0 < v.people → v.moment ≤ m.horizon → arrival m v.arc v.moment ≤ m.horizon) s p
      (all_out_leaves_nobody m p m.horizon valid all.feasible all.all_out).nobody_on_way

  -- whom the moves made take out of the nodes inside, they bring into nodes inside or out
  moves_done : sum_by (λ n. cond (is_inside n) (left m made n m.horizon) 0) (places m.nodes)
      ≡ sum_by (λ n. cond (is_inside n) (arrived m made n m.horizon) 0) (places m.nodes) + out_by m made m.horizon
  unfolding left arrived out_by
  moves_done =
      let h = m.horizon in
      let from = λ (v : Move). cond (is_inside (tail m v.arc) && leb v.moment h) v.people 0 in
      let to = λ (v : Move). cond (is_inside (head m v.arc) && leb (arrival m v.arc v.moment) h) v.people 0 in
      let out = λ (v : Move). cond (is_exit_at m (head m v.arc) && leb (arrival m v.arc v.moment) h) v.people 0 in
      omega (
        arith,
        by_place is_inside (λ v. tail m v.arc) (λ v. v.people) (λ n v. leb v.moment h) (length m.nodes) made
            (All-weaker (λ v. v.arc < length m.arcs) (λ v. tail m v.arc < length m.nodes) (λ v l. tail_in m v.arc valid l) made in_range),
        by_place is_inside (λ v. head m v.arc) (λ v. v.people) (λ n v. leb (arrival m v.arc v.moment) h) (length m.nodes) made
            (All-weaker (λ v. v.arc < length m.arcs) (λ v. head m v.arc < length m.nodes) (λ v l. head_in m v.arc valid l) made in_range),
        sum_by-same_all from (λ v. to v + out v) made
            (λ i d l. let v = get_or made i d in
            one_done (is_exit_at m (head m v.arc)) (is_exit_at m (tail m v.arc)) v.moment (arc_at m v.arc).travel h v.people
            (arc_is m v.arc valid (in_range i d l)).from_no_exit (arrives i d l)),
        sum_by-add to out made,
      )

  -- what comes into a node by the horizon, in the rest and in the building
  rest_in : ℕ → ℕ
  rest_in n = sum_by (rest_entry m p s n) (moments_to m.horizon)

  comes_in : ℕ → ℕ
  comes_in n = sum_by (entry m n) (moments_to m.horizon)

  node_done : (n : ℕ) → n < length m.nodes → (b : Bool) → is_exit_at m n ≡ b
      → rest_in n + cond (not b) (left m made n m.horizon) 0 ≡ comes_in n + cond (not b) (arrived m made n m.horizon) 0
  unfolding rest_in comes_in
  node_done n i false e =
      let same : s + (m.horizon - s) ≡ m.horizon = omega arith in
      rw same at (shifted m p s valid in_horizon all n i e (m.horizon - s))
  node_done n i true e =
      omega (
        arith,
        sum_by-same (rest_entry m p s n) (λ _. 0) (moments_to m.horizon) (λ t. rest_none m p s n t (inl e)),
        sum_by-same (entry m n) (λ _. 0) (moments_to m.horizon) (λ t. exit_entry m n t valid i e),
        sum_by-nothing (moments_to m.horizon),
      )

  -- those who come into the rest, and those who are out by the moves made, are the people of the building
  pub nobody_lost : sum_by (λ n. sum_by (rest_entry m p s n) (moments_to m.horizon)) (places m.nodes) + out_by m made m.horizon ≡ people m
  unfolding rest_in comes_in entered_by
  nobody_lost =
      let left_from = λ (n : ℕ). cond (is_inside n) (left m made n m.horizon) 0 in
      let came_to = λ (n : ℕ). cond (is_inside n) (arrived m made n m.horizon) 0 in
      omega (
        arith,
        sum_by-same_all (λ n. rest_in n + left_from n) (λ n. comes_in n + came_to n) (places m.nodes)
            (All-below _ (length m.nodes) (λ n i. node_done n i (is_exit_at m n) refl)),
        sum_by-add rest_in left_from (places m.nodes),
        sum_by-add comes_in came_to (places m.nodes),
        moves_done,
        entered_all m valid,
      )

  -- so they are few who come into a node at a moment
  pub comer_fits : (n t : ℕ) → n < length m.nodes → t ≤ m.horizon → rest_entry m p s n t < 2 ^ 31
  unfolding people_limit
  comer_fits n t i l =
      omega (
        arith,
        pick_le (rest_entry m p s n) (m.horizon + 1) t (omega (arith, l)),
        pick_le (λ j. sum_by (rest_entry m p s j) (moments_to m.horizon)) (length m.nodes) n i,
        nobody_lost,
        valid.people_fit,
      )
