use Rattle.std.proofs.Common.{◌∙◌, ◌||◌, ap, ap₂, sym, arith, add-one}
use Rattle.std.specs.List.{list_any}
use Rattle.evac_law.specs.Certificates.{label_cut}
use Rattle.evac_law.specs.Cuts.{leaves_cut}
use Rattle.evac_law.specs.Sums.{below}
use Rattle.evac_law.proofs.PartLemmas.{any-below}
use Rattle.bottleneck_report.proofs.ItemLemmas.{arc_counted}
use Rattle.bottleneck_report.proofs.bottlenecks.count_arc.Goals as goal

pub loop-moment-preserved : goal.loop-moment-preserved
loop-moment-preserved c =
    let m = c.args.model.now in
    let l = c.args.labels.now in
    let t = c.loop-moment.moment in
    record {
      size = c.add.ensures.size ∙ c.loop-moment.invariant.size;
      covered = λ k h.
          c.add.ensures.covered k (omega (arith, h, c.loop-moment.invariant.size, c.requires.reportable.room))
          ∙ ap₂ (λ x y. x || y) (c.loop-moment.invariant.covered k h) (c.arc_span.ensures k h)
          ∙ sym (any-below (λ i. leaves_cut m (label_cut m l k) k i c.args.arc) t)
          ∙ ap (λ i. list_any (λ j. leaves_cut m (label_cut m l k) k j c.args.arc) (below i)) (sym (add-one t));
    }

pub returns-clause-count : goal.returns-clause-count
returns-clause-count c = grind (arith, arc_counted)
