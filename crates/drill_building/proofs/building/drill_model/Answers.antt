use Rattle.std.proofs.Common.{◌≡◌, ℕ, ◌+◌, List, [], length, map, codes, sym, ap, ap₂, subst, ◌∙◌, arith}
use Rattle.evac_law.specs.Building.{IsValid}
use Rattle.evac_law.specs.Limits.{arc_limit, node_limit}
use Rattle.evac_law.specs.Sums.{below}
use Rattle.evac_law.specs.declared.entrant.Entrant.{Entrant}
use Rattle.evac_law.specs.declared.model.ArcRow.{ArcRow}
use Rattle.evac_law.specs.declared.model.Model.{Model}
use Rattle.evac_law.specs.declared.model.NodeRow.{NodeRow}
use Rattle.building_table.specs.Names.{EndsDiffer, NamesDiffer, names_of}
use Rattle.drill_building.specs.Drill.{drill_arcs, drill_building, drill_model, drill_nodes}
use Rattle.drill_building.proofs.ArcLemmas.{arc-count, ends-differ}
use Rattle.drill_building.proofs.Floors.{numbers-of, table-is, texts-of}
use Rattle.drill_building.proofs.NodeLemmas.{names-differ, node-count}
use Rattle.drill_building.proofs.Validity.{drill-valid}
use Rattle.drill_building.proofs.building.drill_model.Goals as goal

-- a model of a drill, by its rows
abbrev model-of : List NodeRow → List ArcRow → List Entrant → Model
model-of nodes arcs entrants = record { seconds = 5; horizon = 600; nodes = nodes; arcs = arcs; entrants = entrants }

model-as : (n : ℕ) (nodes : List NodeRow) (arcs : List ArcRow) (entrants : List Entrant) → nodes ≡ drill_nodes n → arcs ≡ drill_arcs n → entrants ≡ []
    → model-of nodes arcs entrants ≡ drill_model n
model-as n nodes arcs entrants a b c = ap₂ (λ x y. model-of x y entrants) a b ∙ ap (model-of (drill_nodes n) (drill_arcs n)) c

pub new-requires-5-clause-few_nodes : goal.new-requires-5-clause-few_nodes
unfolding node_limit
new-requires-5-clause-few_nodes c =
    let size = ap (λ (l : List NodeRow). length l) (c.new.ensures ∙ c.in_ok-nodes.ensures) in
    let count = node-count c.args.number in
    omega (arith, size, count, c.requires)

pub new-requires-5-clause-few_arcs : goal.new-requires-5-clause-few_arcs
unfolding arc_limit
new-requires-5-clause-few_arcs c =
    let size = ap (λ (l : List ArcRow). length l) (c.new-2.ensures ∙ c.in_ok-arcs.ensures) in
    let count = arc-count c.args.number in
    omega (arith, size, count, c.requires)

pub returns-clause-building : goal.returns-clause-building
returns-clause-building c =
    let n = c.args.number in
    let nodes = c.new.ensures ∙ c.in_ok-nodes.ensures in
    let arcs = c.new-2.ensures ∙ c.in_ok-arcs.ensures in
    let named = c.in_ok-names.ensures in
    let floors = below (n + 1) in
    record {
      model = model-as n _ _ _ nodes arcs (c.new-4.ensures ∙ c.new-3.ensures.items);
      names = table-is c.in_ok-names.names (names_of (drill_building n))
          (named.nodes (subst NamesDiffer (sym nodes) (names-differ n)) ∙ ap (map (λ (row : NodeRow). row.name)) nodes)
          (named.ends (subst EndsDiffer (sym arcs) (ends-differ n)) ∙ ap (map (λ (row : ArcRow). (row.from, row.to))) arcs)
          (named.floors.0 ∙ c.in_ok-floors.ensures ∙ sym (numbers-of (codes "storey") floors))
          (named.floors.1 ∙ c.in_ok-texts.ensures ∙ sym (texts-of (codes "storey") floors))
          named.title;
    }

pub returns-clause-valid : goal.returns-clause-valid
returns-clause-valid c =
    let n = c.args.number in
    subst IsValid (sym (model-as n _ _ _ (c.new.ensures ∙ c.in_ok-nodes.ensures) (c.new-2.ensures ∙ c.in_ok-arcs.ensures) (c.new-4.ensures ∙ c.new-3.ensures.items))) (drill-valid n c.requires)

pub returns-clause-names : goal.returns-clause-names
returns-clause-names c =
    let n = c.args.number in
    record {
      nodes = c.in_ok-names.ensures.nodes (subst NamesDiffer (sym (c.new.ensures ∙ c.in_ok-nodes.ensures)) (names-differ n));
      ends = c.in_ok-names.ensures.ends (subst EndsDiffer (sym (c.new-2.ensures ∙ c.in_ok-arcs.ensures)) (ends-differ n));
    }
