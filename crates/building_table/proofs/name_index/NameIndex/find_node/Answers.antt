use Rattle.std.proofs.Common.{Bool, ap, ◌∙◌}
use Rattle.std.specs.List.{position}
use Rattle.evac_law.specs.contracts.name.NodeNamePartialEq.TheImpl.{eq-value}
use Rattle.evac_law.specs.declared.name.NodeName.{NodeName}
use Rattle.model_text.specs.Taken.{same_name}
use Rattle.building_table.specs.Names.{NameLists}
use Rattle.building_table.proofs.EqLemmas.{name-test, position-same}
use Rattle.building_table.proofs.name_index.NameIndex.find_node.Goals as goal

pub returns-in-Some : goal.returns-in-Some
returns-in-Some c =
    let test : NodeName → Bool = λ n. same_name n c.args.name in
    c.in-Some.ensures.index ∙ position-same (eq-value.it c.args.name) test c.self.inside.nodes.keys (name-test c.args.name)
    ∙ ap (λ (x : NameLists). position test x.nodes) c.self.view_is

pub returns-in-None : goal.returns-in-None
returns-in-None c =
    let test : NodeName → Bool = λ n. same_name n c.args.name in
    c.in-None.ensures.index ∙ position-same (eq-value.it c.args.name) test c.self.inside.nodes.keys (name-test c.args.name)
    ∙ ap (λ (x : NameLists). position test x.nodes) c.self.view_is
