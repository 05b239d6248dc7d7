use Rattle.std.proofs.Common.{◌≡◌, ◌∷◌, ◌++◌, List, [], length, map, ap, sym, ◌∙◌, arith}
use Rattle.std.proofs.lemmas.List.{length-append}
use Rattle.std.proofs.lemmas.List.Sums.{sum_by-append}
use Rattle.evac_law.specs.Building.{node_row}
use Rattle.evac_law.specs.declared.model.NodeRow.{NodeRow}
use Rattle.building_table.specs.Built.{Built}
use Rattle.building_table.specs.Names.{NameLists, names_with}
use Rattle.building_table.specs.Taking.{holds_node, people_held}
use Rattle.building_table.proofs.IndexLemmas.{push_name}
use Rattle.building_table.proofs.builder.Builder.push_node.Goals as goal

pub invariant_of-self-2 : goal.invariant_of-self-2
invariant_of-self-2 c =
    let rows = c.self.inside.nodes.items in
    let index : NameLists = c.self.inside.index in
    let row : NodeRow = node_row c.args.name c.args.capacity c.args.start in
    let pushed : c.push.new.self.items ≡ rows ++ (row ∷ []) = c.in-Ok.ensures.items ∙ ap (λ (r : NodeRow). rows ++ (r ∷ [])) c.new-row.ensures in
    let made : c.insert_node.new.self ≡ record index { nodes = names_with index.nodes row.name } = c.in-Ok-insert_node.ensures.made in
    let new = ap (λ (b : Built). holds_node b c.args.name) c.self.view_is ∙ c.requires.new in
    let held = ap (λ (b : Built). people_held b.nodes b.entrants) c.self.view_is in
    let few = ap (λ (b : Built). length b.nodes) c.self.view_is in
    let people = ap (λ (nodes : List NodeRow). people_held nodes c.self.inside.entrants) pushed in
    record {
      listed_nodes = ap (λ (x : NameLists). x.nodes) made ∙ push_name rows row index.nodes c.self.invariant.listed_nodes new
          ∙ ap (map (λ (n : NodeRow). n.name)) (sym pushed);
      listed_arcs = ap (λ (x : NameLists). x.ends) made ∙ c.self.invariant.listed_arcs;
      counted = omega (arith, people, c.self.invariant.counted, sum_by-append (λ (n : NodeRow). n.start) rows (row ∷ []));
      few_people = grind (arith, held, c.requires.fits, c.self.invariant.counted, c.self.invariant.few_people);
      few_floors = c.self.invariant.few_floors;
      few_nodes = omega (arith, ap length pushed, few, c.requires.few, length-append rows (row ∷ []));
      few_arcs = c.self.invariant.few_arcs;
      same_floors = c.self.invariant.same_floors;
    }
