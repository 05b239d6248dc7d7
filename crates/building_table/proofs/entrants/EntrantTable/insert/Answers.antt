use Rattle.std.proofs.Common.{map, ap, ◌∙◌}
use Rattle.std.specs.List.{list_any}
use Rattle.model_text.specs.Taken.{entrant_of, is_coming, with_entrant}
use Rattle.building_table.specs.EntrantRows.{entrant_row}
use Rattle.building_table.proofs.EntrantLemmas.{insert-listed}
use Rattle.building_table.proofs.entrants.EntrantTable.insert.Goals as goal
use Rattle.building_table.proofs.entrants.EntrantTable.insert.Goals.{in-Ok, in-Err}

pub returns-clause-made : goal.returns-clause-made
returns-clause-made c =
    let new = ap (list_any (is_coming c.args.node c.args.moment)) c.self.view_is ∙ c.requires in
    elim c.match-insert.branch [
      | in-Ok w ↦ rw w.result-is (ap (map entrant_row) w.in-Ok.ensures.entries
          ∙ insert-listed (c.args.node, c.args.moment) c.args.people c.self.inside.people.entries new
          ∙ ap (λ l. with_entrant l (entrant_of c.args.node c.args.moment c.args.people)) c.self.view_is)
      | in-Err w ↦ rw w.result-is tt
    ]
