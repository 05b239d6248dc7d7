use Rattle.std.proofs.Common.{arith}
use Rattle.route_decompose.proofs.StockLemmas.{stock_made}
use Rattle.route_decompose.proofs.store.Store.new.Goals as goal

pub invariant_of-result : goal.invariant_of-result
invariant_of-result c = grind (arith, stock_made)

pub returns-clause-stock : goal.returns-clause-stock
returns-clause-stock c = grind (arith, stock_made)
