use Rattle.std.proofs.Common.{arith}
use Rattle.std.proofs.lemmas.Bool.{le-ltb, lt-ltb}
use Rattle.talk.proofs.StudyReplying.{arc_refused, arc_said}
use Rattle.talk.proofs.studies.reply.reply_arc.Goals as goal

pub returns-then-by-from-clause-says : goal.returns-then-by-from-clause-says
returns-then-by-from-clause-says g c =
    let d = c.args.desk.now in
    arc_refused d c.args.line c.args.question.arc c.args.question.by _ _ _ (lt-ltb _ _ (omega (arith, c.horizon.ensures, c.from.ensures)))
    c.put_refusal.ensures

pub returns-else-by-from-clause-says : goal.returns-else-by-from-clause-says
returns-else-by-from-clause-says g c =
    let d = c.args.desk.now in
    let t = c.put_least.ensures in
    arc_said d c.put_least.new.self c.args.line c.args.question.arc c.args.question.by _ _ _ _ (le-ltb _ _ (omega (arith, c.horizon.ensures, c.from.ensures)))
    t.kept t.counted t.text
