-- The lines of the periods so far were put, and the people are those who arrived in them.
use Rattle.std.proofs.Common.{◌≡◌, ◌≤◌, ◌*◌, ◌^◌, sum_by}
use Rattle.std.specs.List.{flat_map}
use Rattle.evac_law.specs.Plans.{out_by}
use Rattle.evac_law.specs.Sums.{below}
use Rattle.evac_law.proofs.Curve.{arriving}
use Rattle.line_io.specs.Writer.{Writes}
use Rattle.certificate_text.specs.BlockText.{out_line}
use Rattle.certificate_text.proofs.answer.put_outs.Given as goal

abbrev pub invariant-loop-period : goal.invariant-loop-period
invariant-loop-period g l =
    let plan = (g.F.Standing.stand l.standing).plan in record {
      people : l.people ≡ sum_by (arriving l.model plan) (below l.period);
      few : l.people ≤ l.period * 2 ^ 48;
      text : Writes g.K.Sink l.initial.writer (flat_map (λ k. out_line k (out_by l.model plan k)) (below l.period)) l.writer;
    }
