use Rattle.std.proofs.Common.{◌≡◌, ℕ, ◌<◌, get_or, length, None}
use Rattle.clearing_report.proofs.MomentLemmas.{moment_by}
use Rattle.clearing_report.proofs.moments.write_moments.Given as goal

abbrev pub invariant-loop-arc : goal.invariant-loop-arc
invariant-loop-arc g l = (n : ℕ) → n < length l.model.nodes → get_or l.moments n None ≡ moment_by l.model (g.F.Standing.stand l.standing) l.arc n
