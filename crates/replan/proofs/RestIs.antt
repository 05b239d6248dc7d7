-- The laws on what is left of a building.
use Rattle.std.proofs.Common.{◌≡◌, ◌+◌, ◌↔◌, ℕ, ◌<◌, ◌≤◌, List, ◌++◌, inl, inr, ◌⊎◌, arith}
use Rattle.std.proofs.lemmas.Bool.{cases_lt}
use Rattle.evac_law.specs.declared.model.Model.{Model}
use Rattle.evac_law.specs.declared.plan.Move.{Move}
use Rattle.evac_law.specs.Building.{IsValid}
use Rattle.evac_law.specs.Certificates.{IsCertified}
use Rattle.evac_law.specs.LabelTable.{LabelTable}
use Rattle.evac_law.specs.Plans.{IsFeasible, TakesAllOut, out_by}
use Rattle.evac_law.proofs.Optimal.{certified_is_best, certified_is_feasible, lawful_down, out_le_out, out_le_people}
use Rattle.replan.specs.Committed.{SharesMoves, gone_by, moves_before, moves_from}
use Rattle.replan.specs.Rest.{rest}
use Rattle.replan.specs.RestLaws.{GoesOnAsRest, IsBestFrom, IsLeftOver}
use Rattle.replan.proofs.Goes.{feasible_both, moved_before}
use Rattle.replan.proofs.Late.{somebody_later}
use Rattle.replan.proofs.LeftOver.{is_left, left_valid, nobody_before, nobody_lost_in}
use Rattle.replan.proofs.Parted.{IsBehind, IsLate, from_late, out_none, outs_behind, own_behind, whole_behind}
use Rattle.replan.proofs.Shared.{shared_behind}
use Rattle.replan.proofs.Shifted.{IsLeft, same_out}

module _ (m : Model) (p : List Move) (s : ℕ) (valid : IsValid m) (first : 1 ≤ s) (in_horizon : s ≤ m.horizon) (all : TakesAllOut m p) where
  of : IsLeft m p s (rest m p s)
  of = is_left m p s valid first in_horizon all

  -- moves from s on in the building, after p's before s, and in what is left
  feasible : (r w : List Move) (k : ℕ) → IsLate s r → IsBehind m p s r w → IsFeasible m w k ↔ IsFeasible (rest m p s) r k
  feasible r w k late behind = feasible_both m (rest m p s) p r w s valid in_horizon all late of behind k

  outs : (r w : List Move) (k : ℕ) → IsBehind m p s r w → out_by m w k ≡ gone_by m p s k + out_by (rest m p s) r k
  outs r w k behind = omega (arith, outs_behind m p r w s behind k, same_out r k of)

  whole : (r : List Move) → IsBehind m p s r (moves_before s p ++ r)
  whole r = whole_behind m p s r all.feasible.arcs

  pub goes_on : (r : List Move) → IsLate s r → GoesOnAsRest m p s r
  goes_on r late = record {
    feasible = λ k l. feasible r (moves_before s p ++ r) k late (whole r);
    outs = λ k. outs r (moves_before s p ++ r) k (whole r);
  }

  -- the plan's own moves from s on
  own : TakesAllOut (rest m p s) (moves_from s p)
  own =
      let behind = own_behind m p s all.feasible.arcs in record {
        feasible = (feasible (moves_from s p) p m.horizon (from_late s p) behind).0 all.feasible;
        all_out = omega (
          arith,
          outs (moves_from s p) p m.horizon behind,
          all.all_out,
          nobody_lost_in m p s valid first in_horizon all,
        );
      }

  pub left_over : IsLeftOver m p s
  left_over = record {
    valid = left_valid m p s valid first in_horizon all;
    cleared = own;
    clearable = (moves_from s p, own.feasible, own.all_out);
    nobody_lost = nobody_lost_in m p s valid first in_horizon all;
  }

  module _ (r : List Move) (l : LabelTable) (c : ℕ) (good : IsCertified (rest m p s) r l c) where
    in_left : (k : ℕ) → IsFeasible (rest m p s) r k
    in_left k = certified_is_feasible (rest m p s) r l c k left_over.valid good

    pub later : IsLate s r
    later = somebody_later (rest m p s) r s left_over.valid in_left (λ n t i j. nobody_before m p s valid first in_horizon all n t i j)

    goes : GoesOnAsRest m p s r
    goes = goes_on r later

    feasible_at : (k : ℕ) → (k < s) ⊎ (s ≤ k) → IsFeasible m (moves_before s p ++ r) k
    feasible_at k (inl before) = lawful_down m (moves_before s p ++ r) k s (omega arith) ((goes.feasible s (omega arith)).1 (in_left s))
    feasible_at k (inr since) = (goes.feasible k since).1 (in_left k)

    best_at : (q : List Move) (k : ℕ) → (k < s) ⊎ (s ≤ k) → SharesMoves s p q → IsFeasible m q k
        → out_by m q k ≤ out_by m (moves_before s p ++ r) k
    best_at q k (inl before) same feasible_q =
        omega (
          arith,
          outs_behind m p (moves_from s q) q s (shared_behind m p q s all.feasible.arcs feasible_q.arcs same) k,
          out_none m (moves_from s q) s k (from_late s q) before,
          outs_behind m p r (moves_before s p ++ r) s (whole r) k,
        )
    best_at q k (inr since) same feasible_q =
        let behind = shared_behind m p q s all.feasible.arcs feasible_q.arcs same in
        let of_q = (feasible (moves_from s q) q k (from_late s q) behind).0 feasible_q in
        omega (
          arith,
          outs (moves_from s q) q k behind,
          outs r (moves_before s p ++ r) k (whole r),
          certified_is_best (rest m p s) r l c left_over.valid good (moves_from s q) k of_q,
        )

    pub best_from : IsBestFrom m p s r
    best_from = record {
      feasible = λ k. feasible_at k (cases_lt k s);
      all_out = omega (
        arith,
        goes.outs m.horizon,
        good.all_out,
        out_le_out (rest m p s) r c m.horizon good.in_horizon,
        out_le_people (rest m p s) r m.horizon left_over.valid (in_left m.horizon),
        left_over.nobody_lost,
      );
      shares = λ a t i. moved_before m (rest m p s) p r (moves_before s p ++ r) s valid in_horizon all later of (whole r) a t i;
      best = λ q k same feasible. best_at q k (cases_lt k s) same feasible;
    }
