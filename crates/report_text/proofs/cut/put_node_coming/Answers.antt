use Rattle.line_io.proofs.WriterLemmas.{writes_part}
use Rattle.report_text.specs.Parts.{entry_text}
use Rattle.report_text.proofs.cut.put_node_coming.Goals as goal

pub loop-moment-preserved : goal.loop-moment-preserved
loop-moment-preserved g c = writes_part (entry_text c.args.model.now c.args.node) c.loop-moment.moment c.loop-moment.invariant c.put_coming.ensures
