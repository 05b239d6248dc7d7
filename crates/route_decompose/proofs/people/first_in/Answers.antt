use Rattle.std.proofs.Common.{arith}
use Rattle.tables.proofs.TableLemmas.{item_at-past_last}
use Rattle.route_decompose.proofs.people.first_in.Goals as goal

pub returns-clause-none : goal.returns-clause-none
returns-clause-none c t = grind (arith, item_at-past_last 0 c.args.table.now c.args.row t, c.loop-moment.invariant t, c.loop-moment-test.false)
