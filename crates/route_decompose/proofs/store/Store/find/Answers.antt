use Rattle.std.proofs.Common.{arith}
use Rattle.tables.proofs.TableLemmas.{item_at-past_rows}
use Rattle.route_decompose.proofs.store.Store.find.Goals as goal

pub returns-clause-none : goal.returns-clause-none
returns-clause-none c n t = grind (arith, item_at-past_rows)
