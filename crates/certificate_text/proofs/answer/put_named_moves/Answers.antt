use Rattle.std.proofs.Common.{◌≡◌, ◌∙◌, ◌+◌, min, ap, arith}
use Rattle.std.specs.List.{flat_map}
use Rattle.evac_law.specs.Plans.{last_arrival}
use Rattle.evac_law.specs.Sums.{below}
use Rattle.line_io.proofs.WriterLemmas.{writes_is, writes_part}
use Rattle.certificate_text.specs.BlockText.{moment_moves}
use Rattle.certificate_text.proofs.QuietMoves.{moves-last}
use Rattle.certificate_text.proofs.answer.put_named_moves.Goals as goal

pub loop-moment-preserved : goal.loop-moment-preserved
loop-moment-preserved g c =
    writes_part (moment_moves c.args.model.now (g.F.Standing.stand c.args.standing.now).plan) c.loop-moment.moment c.loop-moment.invariant c.put_moment.ensures

pub returns : goal.returns
returns g c =
    let m = c.args.model.now in
    let s = g.F.Standing.stand c.args.standing.now in
    let last : c.min-last.result ≡ min (last_arrival m s.plan) m.horizon =
    omega (arith, c.min-last.ensures, c.cleared.ensures, c.requires.fits.last_same) in
    let end : c.loop-moment.moment ≡ c.min-last.result + 1 = omega (arith, c.loop-moment-test.false) in
    writes_is (ap (λ k. flat_map (moment_moves m s.plan) (below k)) end ∙ moves-last m s.plan s.arcs s.horizon c.min-last.result c.requires.fits.ordered.in_range last)
    c.loop-moment.invariant
