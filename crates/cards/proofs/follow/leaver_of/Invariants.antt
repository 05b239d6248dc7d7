use Rattle.std.proofs.Common.{◌≡◌, ◌+◌, take}
use Rattle.std.specs.List.{sum_by}
use Rattle.evac_law.specs.Plans.{left, moved}
use Rattle.plan_layout.specs.Layouts.{shape_of}
use Rattle.time_expansion.specs.Expansion.{arcs_from}
use Rattle.cards.specs.Numbers.{count_before}
use Rattle.cards.proofs.follow.leaver_of.Given as goal

abbrev pub invariant-loop-arc : goal.invariant-loop-arc
invariant-loop-arc l = record {
  arcs : l.arc-items ≡ arcs_from (shape_of l.counts.plan.model) l.fn.comer.node;
  number : count_before (left l.counts.plan.model l.counts.plan.moves l.fn.comer.node) l.moment + sum_by (λ a. moved l.counts.plan.moves a l.moment) (take l.arc-index l.arc-items) + l.behind
      ≡ l.fn.comer.number;
}
