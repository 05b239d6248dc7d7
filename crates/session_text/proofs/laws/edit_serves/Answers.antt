use Rattle.session_text.proofs.Serving.{edit_serves}
use Rattle.session_text.proofs.laws.edit_serves.Goals as goal

pub returns : goal.returns
returns c = edit_serves
