use Rattle.std.proofs.Common.{◌≡◌, ◌*◌, ◌^◌, ◌≤◌}
use Rattle.evac_law.specs.Plans.{left}
use Rattle.cards.specs.Numbers.{count_before}
use Rattle.cards.proofs.Filling.{IsFilling}
use Rattle.cards.proofs.fill.fill_left_row.Given as goal

abbrev pub invariant-loop-moment : goal.invariant-loop-moment
invariant-loop-moment l = record {
  filling : IsFilling l.fn.table l.table l.node l.moment (left l.plan.model l.plan.moves l.node);
  all : l.all ≡ count_before (left l.plan.model l.plan.moves l.node) l.moment;
  small : l.all ≤ l.moment * 2 ^ 44;
}
