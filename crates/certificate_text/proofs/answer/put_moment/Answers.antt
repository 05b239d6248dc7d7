use Rattle.std.proofs.Common.{ap}
use Rattle.line_io.proofs.WriterLemmas.{writes_is, writes_part}
use Rattle.certificate_text.specs.BlockText.{move_part}
use Rattle.certificate_text.specs.NameTexts.{entering_line}
use Rattle.certificate_text.proofs.answer.put_moment.Goals as goal

pub loop-arc-preserved : goal.loop-arc-preserved
loop-arc-preserved g c =
    writes_part (move_part c.args.model.now (g.F.Standing.stand c.args.standing.now).plan c.args.moment) c.loop-arc.arc c.loop-arc.invariant
    (writes_is (ap (λ n. entering_line c.args.model.now (record { moment = c.args.moment; arc = c.loop-arc.arc; people = n })) c.moved-people.ensures) c.put_step.ensures)
