use Rattle.evac_top.proofs.FirstLineLemmas.{stopping_is_refused}
use Rattle.evac_top.proofs.laws.stopping_is_refused.Goals as goal

pub returns : goal.returns
returns c = stopping_is_refused
