use Rattle.std.proofs.Common.{ap, ◌∙◌}
use Rattle.building_table.specs.Built.{Built}
use Rattle.building_table.proofs.FinishLemmas.{end-same, model-same, names-same, valid-as}
use Rattle.building_table.proofs.builder.Builder.assembled.Goals as goal

pub returns-clause-building : goal.returns-clause-building
returns-clause-building c = λ taken are e. (
  end-same c.args.self taken e ∙ c.requires.right,
  record {
    model = model-same c.args.self taken c.args.seconds c.args.horizon _ _ _ e c.requires.seconds c.requires.horizon (c.new.ensures ∙ ap (λ (x : Built). x.nodes) c.self.view_is)
        (c.new-2.ensures ∙ ap (λ (x : Built). x.arcs) c.self.view_is) c.requires.entrants;
    names = c.from_index-names.ensures
        ∙ names-same c.self.inside.index _ taken c.self.invariant.listed_nodes c.self.invariant.listed_arcs (c.self.view_is ∙ e);
  },
)

pub returns-clause-valid : goal.returns-clause-valid
returns-clause-valid c = λ taken are e. let is = returns-clause-building c taken are e in valid-as _ taken is.1.model are is.0
