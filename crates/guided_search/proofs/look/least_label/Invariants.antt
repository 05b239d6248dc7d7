use Rattle.std.proofs.Common.{◌≤◌}
use Rattle.guided_search.proofs.look.least_label.Given as goal

abbrev pub invariant-loop-index : goal.invariant-loop-index
invariant-loop-index l = l.least ≤ 65535
