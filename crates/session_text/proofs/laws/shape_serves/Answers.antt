use Rattle.session_text.proofs.Serving.{shape_serves}
use Rattle.session_text.proofs.laws.shape_serves.Goals as goal

pub returns : goal.returns
returns c = shape_serves
