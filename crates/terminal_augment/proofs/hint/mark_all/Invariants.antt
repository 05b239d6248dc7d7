use Rattle.terminal_augment.specs.Hints.{IsMarkedOn, IsMarkedOver}
use Rattle.terminal_augment.proofs.hint.mark_all.Given as goal

abbrev pub invariant-loop-moment : goal.invariant-loop-moment
invariant-loop-moment l = record {
  over : IsMarkedOver l.fn.marks l.marks l.node l.from l.moment;
  on : IsMarkedOn l.fn.marks l.marks;
}
