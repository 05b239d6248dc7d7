use Rattle.std.proofs.Common.{arith}
use Rattle.std.proofs.lemmas.List.{take_all}
use Rattle.evac_law.proofs.Curve.{arriving_by, arriving_is}
use Rattle.certificate_text.proofs.ExitLemmas.{arriving-out, out_at}
use Rattle.certificate_text.proofs.answer.arriving.Goals as goal

pub arriving_by-requires-clause-arc_in : goal.arriving_by-requires-clause-arc_in
arriving_by-requires-clause-arc_in g c = (out_at c.args.model.now c.args.arcs.now c.loop-arc.arc-index 0 c.requires.arcs c.loop-arc-test.true).0

pub arriving_by-requires-clause-exit : goal.arriving_by-requires-clause-exit
arriving_by-requires-clause-exit g c = (out_at c.args.model.now c.args.arcs.now c.loop-arc.arc-index 0 c.requires.arcs c.loop-arc-test.true).1

pub returns-clause-value : goal.returns-clause-value
returns-clause-value g c = grind (arith, take_all, arriving_by, arriving-out, arriving_is)
