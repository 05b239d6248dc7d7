use Rattle.std.proofs.Common.{ap, ◌∙◌}
use Rattle.building_table.specs.Names.{NameLists, names_with}
use Rattle.building_table.proofs.IndexLemmas.{insert-name, with-nodes}
use Rattle.building_table.proofs.name_index.NameIndex.insert_node.Goals as goal

pub returns-clause-made : goal.returns-clause-made
returns-clause-made c =
    ap (with-nodes c.self.inside.ends.keys) (c.in_ok-insert.ensures.keys ∙ insert-name c.self.inside.nodes.keys c.args.name)
    ∙ ap (λ (x : NameLists). with-nodes x.ends (names_with x.nodes c.args.name)) c.self.view_is
