use Rattle.line_io.proofs.WriterLemmas.{writes_then}
use Rattle.model_writer.proofs.model.put_model.Goals as goal

pub returns : goal.returns
returns g c = writes_then (writes_then (writes_then c.put_settings.ensures c.put_floors.ensures) c.put_rows.ensures) c.put_statement.ensures
