use Rattle.std.proofs.Common.{[], ◌∷◌, ◌++◌, ap₂, ◌∙◌}
use Rattle.std.specs.Prelude.{codes, decimal}
use Rattle.evac_law.specs.Building.{head, tail}
use Rattle.line_io.proofs.WriterLemmas.{writes_line}
use Rattle.certificate_text.specs.BlockText.{name_of_node}
use Rattle.talk.specs.StudyTexts.{least_line}
use Rattle.talk.proofs.studies.lines.put_least.Goals as goal

pub returns : goal.returns
unfolding least_line
returns g c =
    let m = c.args.model.now in
    writes_line (codes "least" ∷ name_of_node m (tail m c.args.trial.arc) ∷ name_of_node m (head m c.args.trial.arc) ∷ decimal c.args.trial.by ∷ decimal c.args.trial.rate ∷ [])
    (c.number.ensures.value ∙ ap₂ (λ l n. l ++ (32 ∷ decimal n)) c.arc_line-line.ensures.line c.from.ensures) c.put.ensures
