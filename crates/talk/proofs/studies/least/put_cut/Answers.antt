use Rattle.line_io.proofs.WriterLemmas.{writes_then}
use Rattle.talk.proofs.studies.least.put_cut.Goals as goal

pub returns : goal.returns
returns g c = writes_then c.put_cut_line.ensures c.put_ins.ensures
