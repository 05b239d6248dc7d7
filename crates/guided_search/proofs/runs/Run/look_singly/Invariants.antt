use Rattle.std.proofs.Common.{◌≤◌, length}
use Rattle.guided_search.proofs.runs.Run.look_singly.Given as goal

abbrev pub invariant-loop-at : goal.invariant-loop-at
invariant-loop-at l = l.reached.count ≤ length l.self.waits.now
