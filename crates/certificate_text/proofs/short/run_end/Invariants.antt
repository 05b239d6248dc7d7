-- The run goes on from the moment reached to the same end.
use Rattle.std.proofs.Common.{◌≡◌, ◌≤◌, ◌-◌}
use Rattle.evac_law.specs.Certificates.{label_cut}
use Rattle.certificate_text.specs.BlockText.{run_end}
use Rattle.certificate_text.proofs.short.run_end.Given as goal

abbrev pub invariant-loop-last : goal.invariant-loop-last
invariant-loop-last l = record {
  within : l.last ≤ l.model.horizon;
  same : run_end (label_cut l.model l.labels l.k l.node) l.last (l.model.horizon - l.last)
      ≡ run_end (label_cut l.model l.labels l.k l.node) l.moment (l.model.horizon - l.moment);
}

abbrev pub decreases-loop-last : goal.decreases-loop-last
decreases-loop-last l = l.model.horizon - l.last
