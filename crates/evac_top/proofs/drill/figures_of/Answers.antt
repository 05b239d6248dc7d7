use Rattle.edit_session.proofs.Standing.{stands_of}
use Rattle.evac_top.proofs.drill.figures_of.Goals as goal

pub fill-requires-clause-stands : goal.fill-requires-clause-stands
fill-requires-clause-stands c =
    let model = c.model-model.ensures in stands_of c.args.session.now.state c.model-model.result.now model.model model.solved model.stands
