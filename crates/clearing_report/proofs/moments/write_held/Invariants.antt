use Rattle.std.proofs.Common.{◌≡◌, ℕ, ◌<◌, cond, get_or, ltb, None}
use Rattle.evac_law.specs.Building.{is_exit_at}
use Rattle.clearing_report.specs.Clearing.{last_that}
use Rattle.clearing_report.proofs.moments.write_held.Given as goal

abbrev pub invariant-loop-node : goal.invariant-loop-node
invariant-loop-node g l =
    (n : ℕ) → n < l.node → get_or l.moments n None ≡ cond (is_exit_at l.model n) None (last_that (λ t. ltb 0 ((g.F.Standing.stand l.standing).contents n t)) l.model.horizon)
