use Rattle.std.proofs.Common.{sym, ◌∙◌}
use Rattle.evac_law.proofs.WindowLemmas.{insert_none, insert_some}
use Rattle.evac_law.proofs.window.place_for.Goals as goal

pub returns-in-Some-clause-ordered : goal.returns-in-Some-clause-ordered
returns-in-Some-clause-ordered c =
    insert_some c.args.windows.now c.args.window c.in-Some.place (sym c.first_later.ensures ∙ c.in-Some.is)

pub returns-in-None-clause-ordered : goal.returns-in-None-clause-ordered
returns-in-None-clause-ordered c =
    insert_none c.args.windows.now c.args.window (sym c.first_later.ensures ∙ c.in-None.is)
