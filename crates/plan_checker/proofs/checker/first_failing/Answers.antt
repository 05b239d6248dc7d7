use Rattle.plan_checker.proofs.OrderedMoves.{countable}
use Rattle.plan_checker.proofs.checker.first_failing.Goals as goal

pub first_broken_hold-requires-clause-moves : goal.first_broken_hold-requires-clause-moves
first_broken_hold-requires-clause-moves c =
    rw c.as_slice-moves.ensures
    (countable c.args.model.now c.args.block.now.moves c.requires.valid c.requires.block.ordered c.requires.block.moves_fit)

pub curve_of-requires : goal.curve_of-requires
curve_of-requires c =
    rw c.as_slice-moves.ensures
    (countable c.args.model.now c.args.block.now.moves c.requires.valid c.requires.block.ordered c.requires.block.moves_fit)
