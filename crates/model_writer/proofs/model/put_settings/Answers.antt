use Rattle.line_io.proofs.WriterLemmas.{writes_then}
use Rattle.model_writer.proofs.model.put_settings.Goals as goal

pub returns : goal.returns
returns g c = writes_then (writes_then (writes_then c.put_statement.ensures c.put_title.ensures) c.put_part.ensures) c.put_part-2.ensures
