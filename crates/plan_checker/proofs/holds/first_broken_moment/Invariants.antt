use Rattle.std.proofs.Common.{◌≡◌, ℕ, ◌+◌, ◌<◌, sum_by}
use Rattle.evac_law.specs.Building.{entry}
use Rattle.evac_law.specs.Sums.{below}
use Rattle.plan_checker.specs.Counts.{IsCountedWell, count}
use Rattle.plan_checker.proofs.holds.first_broken_moment.Given as goal

abbrev pub invariant-loop-moment : goal.invariant-loop-moment
invariant-loop-moment l = record {
  arrived : l.arrived ≡ sum_by (λ s. entry l.model l.node s + count l.came l.node s) (below l.moment);
  gone : l.gone ≡ sum_by (count l.left l.node) (below l.moment);
  well : (t : ℕ) → t < l.moment → IsCountedWell l.model l.came l.left l.node t;
}
