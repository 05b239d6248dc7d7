use Rattle.std.proofs.Common.{◌≡◌, ◌*◌, ◌^◌, ◌≤◌}
use Rattle.evac_law.specs.Plans.{came}
use Rattle.cards.specs.Numbers.{count_before}
use Rattle.cards.proofs.Filling.{IsFilling}
use Rattle.cards.proofs.fill.fill_came_row.Given as goal

abbrev pub invariant-loop-moment : goal.invariant-loop-moment
invariant-loop-moment l = record {
  filling : IsFilling l.fn.table l.table l.node l.moment (came l.plan.model l.plan.moves l.node);
  all : l.all ≡ count_before (came l.plan.model l.plan.moves l.node) l.moment;
  small : l.all ≤ l.moment * 2 ^ 44;
}
