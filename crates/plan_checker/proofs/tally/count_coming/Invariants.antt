use Rattle.std.proofs.Common.{take}
use Rattle.evac_law.specs.Plans.{coming}
use Rattle.plan_checker.specs.Counts.{IsCountOf}
use Rattle.plan_checker.proofs.tally.count_coming.Given as goal

abbrev pub invariant-loop-step : goal.invariant-loop-step
invariant-loop-step l = IsCountOf (coming l.model (take l.step-index l.moves)) l.fn.tally l.tally
