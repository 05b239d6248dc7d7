use Rattle.std.proofs.Common.{ap, sym, ◌∙◌}
use Rattle.line_io.proofs.WriterLemmas.{writes_is, writes_omitted, writes_part}
use Rattle.certificate_text.specs.BlockText.{label_line}
use Rattle.certificate_text.specs.NameTexts.{run_line}
use Rattle.certificate_text.proofs.answer.put_runs.Goals as goal
use Rattle.certificate_text.proofs.answer.put_runs.Goals.{then-begins_run, else-begins_run}

pub loop-moment-preserved : goal.loop-moment-preserved
loop-moment-preserved g c = writes_part (run_line c.args.name.now c.args.labels.now c.args.cleared c.args.node) c.loop-moment.moment c.loop-moment.invariant (elim c.if-begins_run.branch [
  | then-begins_run w ↦ rw (w.writer-is, sym c.begins_run.ensures ∙ w.if-begins_run.true)
      (writes_is (ap (label_line c.args.name.now c.loop-moment.moment) w.shown_label-label.ensures) w.put_label.ensures)
  | else-begins_run w ↦ rw w.writer-is (writes_omitted _ _ c.loop-moment.writer (sym c.begins_run.ensures ∙ w.if-begins_run.false))
])
