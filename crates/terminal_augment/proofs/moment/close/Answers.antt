use Rattle.terminal_augment.proofs.AllOutLemmas.{over_out}
use Rattle.terminal_augment.proofs.moment.close.Goals as goal

pub returns-then-are_all_out-clause-flooded : goal.returns-then-are_all_out-clause-flooded
returns-then-are_all_out-clause-flooded c =
    over_out c.requires.net (c.are_all_out.ensures.0 c.if-are_all_out.true) c.requires.settled c.label_all.ensures
