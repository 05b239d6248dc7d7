use Rattle.std.proofs.Common.{◌≡◌, ℕ, [], ◌∷◌, ap, sym, arith, codes, decimal}
use Rattle.std.specs.List.{flat_map}
use Rattle.line_io.proofs.WriterLemmas.{writes_is, writes_part, writes_then}
use Rattle.evac_law.specs.Sums.{below}
use Rattle.evac_law.proofs.PartLemmas.{flat_map-more}
use Rattle.line_io.specs.Text.{line_text}
use Rattle.talk.specs.ReplanTalks.{gone_line}
use Rattle.talk.proofs.replans.gone.put_gone_lines.Goals as goal

pub loop-moment-preserved : goal.loop-moment-preserved
loop-moment-preserved g c =
    let k = c.loop-moment.moment in
    writes_part (gone_line c.args.replan.now.gone) k c.loop-moment.invariant
    (writes_is (ap (λ (n : ℕ). line_text (codes "gone" ∷ decimal k ∷ decimal n ∷ [])) c.gone.ensures) c.put_gone_line.ensures)

pub returns : goal.returns
returns g c =
    let f = gone_line c.args.replan.now.gone in
    let n = c.args.last in
    let end : c.loop-moment.moment ≡ n = omega (arith, c.loop-moment-test.false, c.loop-moment.auto.moment-end) in
    let before = writes_is (ap (λ (i : ℕ). flat_map f (below i)) end) c.loop-moment.invariant in
    let this = writes_is (ap (λ (x : ℕ). line_text (codes "gone" ∷ decimal n ∷ decimal x ∷ [])) c.gone-2.ensures) c.put_gone_line-2.ensures in
    writes_is (sym (flat_map-more f n)) (writes_then before this)
