use Rattle.std.proofs.Common.{◌≡◌, ◌-◌, ◌≤◌}
use Rattle.exit_study.specs.Rates.{IsSearch}
use Rattle.exit_study.proofs.rates.least_rate.Given as goal

abbrev pub invariant-loop-low : goal.invariant-loop-low
invariant-loop-low g l = record {
  search : IsSearch l.fn.session.state.model l.arc l.by l.low l.high;
  same : l.session.state ≡ l.initial.session.state;
  grows : l.initial.steps ≤ l.steps;
}

abbrev pub decreases-loop-low : goal.decreases-loop-low
decreases-loop-low g l = l.high - l.low
