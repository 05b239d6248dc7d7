use Rattle.std.proofs.Common.{sym, ◌∙◌}
use Rattle.line_io.proofs.WriterLemmas.{writes_omitted, writes_part}
use Rattle.evac_law.specs.Certificates.{label_cut}
use Rattle.certificate_text.specs.BlockText.{in_part}
use Rattle.certificate_text.proofs.short.put_runs.Goals as goal
use Rattle.certificate_text.proofs.short.put_runs.Goals.{then-opens_run, else-opens_run}

pub loop-moment-preserved : goal.loop-moment-preserved
loop-moment-preserved g c =
    writes_part (in_part c.args.model.now (label_cut c.args.model.now c.args.labels.now c.args.k) c.args.node) c.loop-moment.moment c.loop-moment.invariant (elim c.if-opens_run.branch [
      | then-opens_run w ↦ rw (w.writer-is, sym c.opens_run.ensures ∙ w.if-opens_run.true, ← w.run_end-last.ensures, ← w.node.ensures) w.put_in.ensures
      | else-opens_run w ↦ rw w.writer-is (writes_omitted _ _ c.loop-moment.writer (sym c.opens_run.ensures ∙ w.if-opens_run.false))
    ])
