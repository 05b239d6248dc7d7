use Rattle.std.proofs.Common.{◌≡◌, ◌+◌, ◌*◌, ◌^◌, ◌<◌, cond, length, ltb, take}
use Rattle.std.specs.List.{sum_by}
use Rattle.evac_law.specs.Plans.{came}
use Rattle.plan_layout.specs.Layouts.{shape_of}
use Rattle.time_expansion.specs.Expansion.{arcs_to}
use Rattle.cards.specs.Numbers.{brought, count_before}
use Rattle.cards.proofs.follow.comers_before.Given as goal

abbrev pub invariant-loop-other : goal.invariant-loop-other
invariant-loop-other l = record {
  arcs : l.other-items ≡ arcs_to (shape_of l.counts.plan.model) l.node;
  few : length l.other-items < 2 ^ 11;
  small : l.number < 2 ^ 62 + l.other-index * 2 ^ 32;
  number : l.number ≡ count_before (came l.counts.plan.model l.counts.plan.moves l.node) l.moment
      + sum_by (λ b. cond (ltb b l.arc) (brought l.counts.plan.model l.counts.plan.moves b l.moment) 0) (take l.other-index l.other-items);
}
