-- Where none of the legs so far turned back, none of them goes backwards.
use Rattle.std.proofs.Common.{IsFalse, take}
use Rattle.std.specs.List.{All}
use Rattle.terminal_augment.proofs.hint.turn_back.Given as goal

abbrev pub invariant-loop-leg : goal.invariant-loop-leg
invariant-loop-leg l = IsFalse l.turns → All (λ g. IsFalse g.step.back) (take l.leg-index l.legs)
