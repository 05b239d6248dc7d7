use Rattle.std.proofs.Common.{◌≤◌, length, drop}
use Rattle.residual_net.specs.Legs.{steps_of_legs}
use Rattle.terminal_augment.specs.Hints.{IsMarkedOn}
use Rattle.terminal_augment.proofs.HintLemmas.{IsOver, IsTail}
use Rattle.terminal_augment.proofs.hint.carried.Given as goal

abbrev pub invariant-loop-left : goal.invariant-loop-left
invariant-loop-left l = record {
  fits : l.left ≤ length l.legs;
  tail : IsTail l.net l.k (IsOver l.turns l.marks l.end) l.end l.people (steps_of_legs l.net.site (drop l.left l.legs));
  marks : IsMarkedOn l.fn.marks l.marks;
}

abbrev pub decreases-loop-left : goal.decreases-loop-left
decreases-loop-left l = l.left
