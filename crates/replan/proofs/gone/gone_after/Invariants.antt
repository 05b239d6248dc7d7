use Rattle.std.proofs.Common.{◌≡◌, ℕ, ◌+◌, ◌*◌, ◌^◌, ◌<◌, ◌≤◌, get_or, length}
use Rattle.std.specs.List.{sum_by}
use Rattle.evac_law.specs.Sums.{below}
use Rattle.replan.specs.Committed.{gone_by, moves_before}
use Rattle.replan.proofs.Running.{arriving_at}
use Rattle.replan.proofs.gone.gone_after.Given as goal

abbrev pub invariant-loop-moment : goal.invariant-loop-moment
invariant-loop-moment g l = record {
  counted : l.people ≡ sum_by (arriving_at l.layout (moves_before l.from (g.F.Standing.stand l.standing).plan)) (below l.moment);
  small : l.people ≤ l.moment * 2 ^ 52;
  size : length l.after.items ≡ l.moment;
  done : (k : ℕ) → k < l.moment → get_or l.after.items k 0 ≡ get_or l.gone k 0 + gone_by l.layout (g.F.Standing.stand l.standing).plan l.from k;
}
