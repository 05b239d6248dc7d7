use Rattle.std.proofs.Common.{arith}
use Rattle.residual_ways.proofs.LayoutLemmas.{wait_stands}
use Rattle.residual_ways.proofs.sizes.Sizes.wait.Goals as goal

pub returns-clause-cell : goal.returns-clause-cell
returns-clause-cell c site node moment same pair =
    let s = c.args.self.now in
    omega (arith, wait_stands site s node moment same, pair, s.pairs_are, s.cells_are, c.requires)
