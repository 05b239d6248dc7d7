use Rattle.edit_session.proofs.Standing.{stands_of}
use Rattle.session_text.proofs.texts.put_routes.Goals as goal

pub put_routes-requires-clause-stands : goal.put_routes-requires-clause-stands
put_routes-requires-clause-stands g c =
    let model = c.model-model.ensures in stands_of c.args.session.now.state c.model-model.result.now model.model model.solved model.stands
