use Rattle.std.proofs.Common.{ap, ◌∙◌}
use Rattle.building_table.specs.Names.{NameTable}
use Rattle.building_table.proofs.names.Names.new.Goals as goal

pub returns-clause-nodes : goal.returns-clause-nodes
returns-clause-nodes c = λ differ. ap (λ (t : NameTable). t.nodes) c.from_index.ensures ∙ c.in_ok-insert_model.ensures.nodes differ

pub returns-clause-ends : goal.returns-clause-ends
returns-clause-ends c = λ differ. ap (λ (t : NameTable). t.ends) c.from_index.ensures ∙ c.in_ok-insert_model.ensures.ends differ
