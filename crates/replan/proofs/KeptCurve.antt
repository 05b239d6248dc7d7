-- Carrying a best plan out keeps its curve.
use Rattle.std.proofs.Common.{ℕ, List, ◌++◌, refl, ◌∙◌, arith}
use Rattle.evac_law.specs.Plans.{TakesAllOut}
use Rattle.evac_law.specs.declared.model.Model.{Model}
use Rattle.evac_law.specs.declared.plan.Move.{Move}
use Rattle.evac_law.specs.Building.{IsValid}
use Rattle.evac_law.specs.Certificates.{IsCertified}
use Rattle.evac_law.specs.LabelTable.{LabelTable}
use Rattle.evac_law.proofs.Optimal.{certified_is_best, certified_is_feasible, out_stays}
use Rattle.replan.specs.Committed.{moves_before}
use Rattle.replan.specs.RestLaws.{AdvanceKeepsCurve}
use Rattle.replan.proofs.RestIs.{best_from, goes_on, later}

takes : (m : Model) (p : List Move) (l : LabelTable) (c : ℕ) → IsValid m → IsCertified m p l c → TakesAllOut m p
takes m p l c valid good = record {
  feasible = certified_is_feasible m p l c m.horizon valid good;
  all_out = out_stays m p c m.horizon good.in_horizon good.arrives ∙ good.all_out;
}

pub curve-kept : AdvanceKeepsCurve
curve-kept m p r s l i c d valid first in_horizon good rest_good k =
    let all = takes m p l c valid good in
    let best = best_from m p s valid first in_horizon all r i d rest_good in
    let late = later m p s valid first in_horizon all r i d rest_good in
    let outs = (goes_on m p s valid first in_horizon all r late).outs k in
    let one = best.best p k (λ a t j. refl) (certified_is_feasible m p l c k valid good) in
    let two = certified_is_best m p l c valid good (moves_before s p ++ r) k (best.feasible k) in
    omega (arith, outs, one, two)
