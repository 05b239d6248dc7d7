use Rattle.line_io.proofs.WriterLemmas.{writes_is, writes_then}
use Rattle.model_writer.proofs.line.put_line.Goals as goal

pub returns : goal.returns
returns g c = writes_then c.put_all.ensures (writes_is c.end_of.ensures c.put_all-2.ensures)
