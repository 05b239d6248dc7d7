use Rattle.std.proofs.Common.{ap}
use Rattle.std.specs.List.{flat_map}
use Rattle.line_io.proofs.WriterLemmas.{writes_is, writes_then}
use Rattle.model_writer.specs.ModelText.{node_text}
use Rattle.model_writer.proofs.model.put_rows.Goals as goal

pub returns : goal.returns
returns g c =
    writes_then (writes_then (writes_then (writes_is (ap (flat_map node_text) c.as_slice.ensures) c.put_nodes.ensures) c.put_arcs.ensures) c.put_windows.ensures) c.put_entrants.ensures
