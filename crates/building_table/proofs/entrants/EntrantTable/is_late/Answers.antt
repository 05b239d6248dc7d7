use Rattle.std.proofs.Common.{nat_lt, ap, ◌∙◌, sym}
use Rattle.std.specs.List.{list_any}
use Rattle.evac_law.specs.declared.entrant.Entrant.{Entrant}
use Rattle.building_table.specs.EntrantRows.{entrant_row}
use Rattle.model_text.proofs.ListFacts.{any-map}
use Rattle.building_table.proofs.entrants.EntrantTable.is_late.Goals as goal

pub returns : goal.returns
returns c =
    c.has_later.ensures ∙ any-map (λ key. nat_lt c.args.moment key.1) (λ e. e.0) c.self.inside.people.entries
    ∙ sym (any-map (λ (e : Entrant). nat_lt c.args.moment e.moment) entrant_row c.self.inside.people.entries)
    ∙ ap (list_any (λ (e : Entrant). nat_lt c.args.moment e.moment)) c.self.view_is
