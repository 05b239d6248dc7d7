use Rattle.std.proofs.Common.{◌≡◌, ◌∙◌, get_or, ap, ap₂, arith, length, None, ltb}
use Rattle.std.proofs.Math.ListN.{set}
use Rattle.evac_law.specs.declared.model.ArcRow.{ArcRow}
use Rattle.evac_law.specs.Building.{tail}
use Rattle.evac_law.specs.Plans.{moved}
use Rattle.clearing_report.specs.Clearing.{last_inside, last_that, later}
use Rattle.clearing_report.proofs.MomentLemmas.{moment_by, moment_put, moments_are, moments_first, moments_last}
use Rattle.clearing_report.proofs.moments.write_moments.Goals as goal

pub loop-arc-init : goal.loop-arc-init
loop-arc-init g c n l = c.write_held.ensures n l ∙ moments_first c.args.model.now (g.F.Standing.stand c.args.standing.now) n

pub loop-arc-preserved : goal.loop-arc-preserved
loop-arc-preserved g c n l =
    let m = c.args.model.now in
    let f = g.F.Standing.stand c.args.standing.now in
    let xs = c.loop-arc.moments in
    let i = c.loop-arc.arc in
    let from : c.arc.result.now.from ≡ tail m i = ap (λ (r : ArcRow). r.from) c.arc.ensures in
    let value : c.later.result ≡ later (get_or xs (tail m i) None) (last_that (λ t. ltb 0 (moved f.plan i t)) m.horizon) =
    c.later.ensures ∙ ap₂ (λ j z. later (get_or xs j None) z) from c.last_moved.ensures in
    ap₂ (λ j z. get_or (set xs j z) n None) from value
    ∙ moment_put m f i xs c.requires.valid (omega (arith, c.loop-arc-test.true, c.arc_count-arc-end.ensures.count))
    (c.loop-arc.auto.moments ∙ c.write_held.auto.moments ∙ c.requires.size) c.loop-arc.invariant n l

pub returns : goal.returns
returns g c =
    let m = c.args.model.now in
    let f = g.F.Standing.stand c.args.standing.now in
    let last : c.loop-arc.arc ≡ length m.arcs = omega (arith, c.loop-arc-test.false, c.loop-arc.auto.arc-end, c.arc_count-arc-end.ensures.count) in
    moments_are (last_inside m f.plan) (length m.nodes) c.loop-arc.moments (c.loop-arc.auto.moments ∙ c.write_held.auto.moments ∙ c.requires.size)
    (λ i l. c.loop-arc.invariant i l ∙ ap (λ z. moment_by m f z i) last ∙ moments_last m f i c.requires.fits c.requires.feasible l)
