use Rattle.std.proofs.Common.{Bool, ap, ◌∙◌}
use Rattle.std.specs.List.{position}
use Rattle.evac_law.specs.Building.{no_node}
use Rattle.evac_law.specs.declared.model.NodeRow.{NodeRow}
use Rattle.evac_law.specs.declared.name.NodeName.{NodeName}
use Rattle.model_text.specs.Taken.{same_name}
use Rattle.building_table.specs.Built.{Built}
use Rattle.building_table.proofs.EqLemmas.{position-map}
use Rattle.building_table.proofs.PlaceLemmas.{place-found}
use Rattle.building_table.proofs.builder.Builder.node_place.Goals as goal

pub returns : goal.returns
returns c =
    let test : NodeName → Bool = λ n. same_name n c.args.name in
    let name : NodeRow → NodeName = λ n. n.name in
    place-found (λ n. test n.name) c.args.self.now.nodes no_node c.find_node.result
    (c.find_node.ensures ∙ ap (position test) c.self.invariant.listed_nodes ∙ position-map test name c.self.inside.nodes.items
    ∙ ap (λ (b : Built). position (λ n. test n.name) b.nodes) c.self.view_is)
