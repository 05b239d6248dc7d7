use Rattle.std.proofs.Common.{arith}
use Rattle.plan_checker.proofs.CountLemmas.{curve_counted, out_fits}
use Rattle.plan_checker.proofs.curve.write_curve.Goals as goal

pub sum_up-requires : goal.sum_up-requires
sum_up-requires c k l =
    let same = curve_counted c.args.model.now c.args.moves.now c.count_arriving.new.numbers k
    (λ t h. c.count_arriving.ensures t (omega (arith, h, l, c.count_arriving.auto.numbers))) in
    omega (arith, same, out_fits c.args.model.now c.args.moves.now k, c.requires.moves.few)

pub returns : goal.returns
returns c k l = grind (arith, curve_counted)
