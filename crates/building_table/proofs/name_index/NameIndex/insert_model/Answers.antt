use Rattle.std.proofs.Common.{◌≡◌, List, map, subst, ◌∙◌}
use Rattle.std.proofs.lemmas.Result.{on_ok_weaker}
use Rattle.evac_law.specs.declared.model.NodeRow.{NodeRow}
use Rattle.building_table.specs.Names.{NamesDiffer}
use Rattle.building_table.proofs.name_index.NameIndex.insert_model.Goals as goal

pub returns-clause-nodes : goal.returns-clause-nodes
returns-clause-nodes c =
    let named = subst (λ (rows : List NodeRow). NamesDiffer rows → c.insert_nodes.new.self.nodes ≡ map (λ n. n.name) rows) c.as_slice.ensures c.in_ok-insert_nodes.ensures.nodes in
    on_ok_weaker c.insert_arcs.result (λ same differ. same ∙ named differ) c.insert_arcs.ensures.nodes
