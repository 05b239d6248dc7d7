use Rattle.evac_top.proofs.CompleteLemmas.{runs_answer}
use Rattle.evac_top.proofs.laws.runs_answer.Goals as goal

pub returns : goal.returns
returns c = runs_answer
