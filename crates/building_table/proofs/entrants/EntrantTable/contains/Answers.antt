use Rattle.std.proofs.Common.{ap, ◌∙◌}
use Rattle.std.specs.List.{list_any}
use Rattle.model_text.specs.Taken.{is_coming}
use Rattle.building_table.proofs.EntrantLemmas.{found-listed}
use Rattle.building_table.proofs.entrants.EntrantTable.contains.Goals as goal

pub returns : goal.returns
returns c =
    c.contains_key.ensures ∙ found-listed (c.args.node, c.args.moment) c.self.inside.people.entries
    ∙ ap (list_any (is_coming c.args.node c.args.moment)) c.self.view_is
