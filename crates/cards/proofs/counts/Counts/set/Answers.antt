use Rattle.std.proofs.Common.{sym, subst}
use Rattle.evac_law.specs.declared.model.Model.{Model}
use Rattle.evac_law.specs.Stands.{Stand}
use Rattle.cards.specs.Laws.{IsEvacuation}
use Rattle.cards.proofs.Ranges.{AreInRange, in_range_of}
use Rattle.cards.proofs.Taken.{evacuates_too, stand_evacuates, stand_in_range}
use Rattle.cards.proofs.counts.Counts.set.Goals as goal

pub returns-clause-true_counts : goal.returns-clause-true_counts
returns-clause-true_counts g c =
    let m = c.args.model.now in
    let f : Stand = g.F.Standing.stand c.args.standing.now in
    let p = c.set.new.self in
    let range : AreInRange m p.moves = subst (λ (x : Model). AreInRange x p.moves) c.set.ensures.model (in_range_of p.model p.moves c.set.ensures.in_range) in
    let takes : IsEvacuation m p.moves = evacuates_too m f.plan p.moves (stand_in_range m f c.requires.stands.fits) range (λ a t. sym (c.set.ensures.moves a t))
    (stand_evacuates m f c.requires.stands) in
    record {
      sized = record { came = c.fill_came.ensures.by_node; left = c.fill_left.ensures.by_node };
      takes = subst (λ (x : Model). IsEvacuation x p.moves) (sym c.set.ensures.model) takes;
      comes = c.fill_came.ensures.numbers;
      leaves = c.fill_left.ensures.numbers;
    }
