use Rattle.std.proofs.Common.{◌≡◌, ◌*◌, ◌^◌, ◌≤◌, ◌<◌, take, length}
use Rattle.std.specs.List.{sum_by}
use Rattle.time_expansion.specs.Expansion.{arcs_to}
use Rattle.plan_layout.specs.Layouts.{shape_of}
use Rattle.cards.specs.Numbers.{brought}
use Rattle.cards.proofs.plan.PlanCopy.coming.Given as goal

abbrev pub invariant-loop-arc : goal.invariant-loop-arc
invariant-loop-arc l = record {
  arcs : l.arc-items ≡ arcs_to (shape_of l.self.model) l.node;
  few : length l.arc-items < 2 ^ 11;
  sum : l.people ≡ sum_by (λ a. brought l.self.model l.self.moves a l.moment) (take l.arc-index l.arc-items);
  small : l.people ≤ l.arc-index * 2 ^ 32;
}
