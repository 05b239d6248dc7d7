use Rattle.std.proofs.Common.{[], ◌∷◌, ◌++◌, ap, ◌∙◌}
use Rattle.std.specs.Prelude.{codes, decimal}
use Rattle.evac_law.specs.Building.{head, tail}
use Rattle.line_io.proofs.WriterLemmas.{writes_line}
use Rattle.certificate_text.specs.BlockText.{name_of_node}
use Rattle.talk.specs.StudyTexts.{never_line}
use Rattle.talk.proofs.studies.lines.put_never.Goals as goal

pub returns : goal.returns
unfolding never_line
returns g c =
    let m = c.args.model.now in
    writes_line (codes "least" ∷ name_of_node m (tail m c.args.arc) ∷ name_of_node m (head m c.args.arc) ∷ decimal c.args.by ∷ codes "never" ∷ [])
    (c.field.ensures ∙ ap (λ l. l ++ (32 ∷ codes "never")) c.arc_line-line.ensures.line) c.put.ensures
