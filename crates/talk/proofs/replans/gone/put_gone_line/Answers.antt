use Rattle.std.specs.Prelude.{[], ◌∷◌, codes, decimal}
use Rattle.line_io.proofs.WriterLemmas.{writes_line}
use Rattle.talk.proofs.replans.gone.put_gone_line.Goals as goal

pub returns : goal.returns
returns g c = writes_line (codes "gone" ∷ decimal c.args.moment ∷ decimal c.args.people ∷ []) (cc) c.put.ensures
