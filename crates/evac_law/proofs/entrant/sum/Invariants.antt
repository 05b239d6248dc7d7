use Rattle.std.proofs.Common.{◌≡◌, take, sum_by}
use Rattle.evac_law.proofs.entrant.sum.Given as goal

abbrev pub invariant-loop-entrant : goal.invariant-loop-entrant
invariant-loop-entrant l = l.all ≡ sum_by (λ e. e.people) (take l.entrant-index l.entrants)
