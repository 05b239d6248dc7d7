use Rattle.std.proofs.Common.{arith}
use Rattle.std.proofs.lemmas.Bool.{ltb-true, ltb-false}
use Rattle.cut_witness.proofs.CrossingLemmas.{at_none, at_some}
use Rattle.cut_witness.proofs.period_cut.PeriodCut.has_steps.Goals as goal

pub returns-in-Entries : goal.returns-in-Entries
returns-in-Entries c = grind (arith, at_some)

pub returns-in-Arcs-clause-more : goal.returns-in-Arcs-clause-more
returns-in-Arcs-clause-more c t = grind (arith, ltb-true, at_some)

pub returns-in-Arcs-clause-none : goal.returns-in-Arcs-clause-none
returns-in-Arcs-clause-none c t x = grind (arith, ltb-false, at_none)
