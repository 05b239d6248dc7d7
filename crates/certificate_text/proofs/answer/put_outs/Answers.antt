use Rattle.std.proofs.Common.{◌≡◌, ◌∙◌, ◌+◌, ap, sym, arith}
use Rattle.std.specs.List.{sum_by}
use Rattle.evac_law.specs.Plans.{out_by}
use Rattle.evac_law.specs.Sums.{below}
use Rattle.evac_law.proofs.Curve.{arriving, out_is_sum}
use Rattle.evac_law.proofs.SumLemmas.{sum_below-more}
use Rattle.line_io.proofs.WriterLemmas.{writes_is, writes_part}
use Rattle.certificate_text.specs.BlockText.{out_line}
use Rattle.certificate_text.proofs.answer.put_outs.Goals as goal

pub loop-period-preserved : goal.loop-period-preserved
loop-period-preserved g c =
    let m = c.args.model.now in
    let p = (g.F.Standing.stand c.args.standing.now).plan in
    let k = c.loop-period.period in
    let sum : c.loop-period.people + c.arriving-people.result ≡ sum_by (arriving m p) (below (k + 1)) =
    omega (arith, c.loop-period.invariant.people, c.arriving-people.ensures.value, sum_below-more (arriving m p) k) in
    record {
      people = sum;
      few = omega (arith, c.loop-period.invariant.few, c.arriving-people.ensures.few);
      text = writes_part (λ j. out_line j (out_by m p j)) k c.loop-period.invariant.text
          (writes_is (ap (out_line k) (sum ∙ sym (out_is_sum m p k))) c.put_out.ensures);
    }
