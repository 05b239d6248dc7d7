-- The exits among the nodes so far.
use Rattle.std.proofs.Common.{◌≡◌, ◌≤◌, length}
use Rattle.std.specs.List.{filter}
use Rattle.evac_law.specs.Building.{is_exit_at}
use Rattle.evac_law.specs.Sums.{below}
use Rattle.talk.proofs.studies.exits.exit_count.Given as goal

abbrev pub invariant-loop-node : goal.invariant-loop-node
invariant-loop-node l = record {
  counted : l.count ≡ length (filter (is_exit_at l.model) (below l.node));
  few : l.count ≤ l.node;
}
