use Rattle.std.specs.Prelude.{[], ◌∷◌, codes, decimal}
use Rattle.line_io.proofs.WriterLemmas.{writes_line}
use Rattle.evac_law.specs.Names.{name_text}
use Rattle.talk.specs.StudyTexts.{exit_line}
use Rattle.talk.proofs.studies.lines.put_exit.Goals as goal

pub returns : goal.returns
unfolding exit_line
returns g c = writes_line (codes "exit" ∷ name_text c.args.name ∷ decimal c.args.moment ∷ []) (cc) c.put.ensures
