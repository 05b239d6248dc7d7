use Rattle.edit_session.proofs.Standing.{stands_of}
use Rattle.session_text.proofs.reports.ReportSpace.report_plan.Goals as goal

pub fill-requires-clause-stands : goal.fill-requires-clause-stands
fill-requires-clause-stands c =
    let model = c.model.ensures in stands_of c.args.session.now.state c.model.result.now model.model model.solved model.stands
