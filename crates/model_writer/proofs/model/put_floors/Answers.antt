use Rattle.line_io.proofs.WriterLemmas.{writes_part}
use Rattle.model_writer.specs.ModelText.{floor_text}
use Rattle.model_writer.proofs.model.put_floors.Goals as goal

pub loop-place-preserved : goal.loop-place-preserved
loop-place-preserved g c = writes_part (floor_text c.args.names.now.floors c.args.names.now.texts) c.loop-place.place c.loop-place.invariant c.put_floor.ensures
