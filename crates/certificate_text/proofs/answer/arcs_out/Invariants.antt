-- The arcs so far that lead into exits.
use Rattle.std.proofs.Common.{◌≡◌, ◌≤◌, length}
use Rattle.std.specs.List.{filter}
use Rattle.evac_law.specs.Sums.{below}
use Rattle.certificate_text.specs.ExitArcs.{leads_out}
use Rattle.certificate_text.proofs.answer.arcs_out.Given as goal

abbrev pub invariant-loop-arc : goal.invariant-loop-arc
invariant-loop-arc l = record {
  arcs : l.arcs.items ≡ filter (leads_out l.model) (below l.arc);
  few : length l.arcs.items ≤ l.arc;
}
