-- What a draft says so far, as entries, and the entries that a line may have.
use Rattle.std.specs.Prelude.{ℕ, ◌≤◌, List, [], ◌∷◌, ◌++◌, map}
use Rattle.evac_law.specs.declared.model.Model.{Model}
use Rattle.evac_law.specs.Building.{node_at}
use Rattle.certificate_text.specs.declared.entry.Entry.{Entry}
use Rattle.certificate_text.specs.declared.entry.Entry.TheVariants as entries
use Rattle.certificate_text.specs.Block.{number_field_limit}
use Rattle.certificate_text.specs.BlockEntries.{entry_of_move, out_entries}
use Rattle.block_reader.specs.declared.run.Run.{Run}
use Rattle.block_reader.specs.declared.stage.Stage.{Stage}
use Rattle.block_reader.specs.declared.stage.Stage.TheVariants as stages
use Rattle.block_reader.specs.Drafts.{Draft}

-- the numbers of the block's head, up to the stage of the draft
abbrev pub head_entries : Stage → ℕ → ℕ → ℕ → List Entry
head_entries stages.Index index people cleared = []
head_entries stages.People index people cleared = entries.Index index ∷ []
head_entries stages.Cleared index people cleared = entries.Index index ∷ entries.People people ∷ []
head_entries stages.Lists index people cleared = entries.Index index ∷ entries.People people ∷ entries.Cleared cleared ∷ []

-- a run as a label line says it
abbrev pub run_entry : Model → Run → Entry
run_entry m r = entries.Label (node_at m r.node).name r.moment r.label

-- all that the draft says, in its order
abbrev pub draft_entries : Model → Draft → List Entry
draft_entries m d =
    head_entries d.stage d.index d.people d.cleared ++ out_entries d.outs ++ map (run_entry m) d.runs ++ map (entry_of_move m) d.moves

-- the numbers of a line have nine digits at most
abbrev pub IsEntry : Entry → Type 0
IsEntry entries.Blank = Unit {0}
IsEntry (entries.Index index) = index ≤ number_field_limit
IsEntry (entries.People people) = people ≤ number_field_limit
IsEntry (entries.Cleared moment) = moment ≤ number_field_limit
IsEntry (entries.Out period people) = people ≤ number_field_limit
IsEntry (entries.Label node moment label) = label ≤ number_field_limit
IsEntry (entries.Move moment start finish people) = people ≤ number_field_limit
IsEntry entries.End = Unit {0}
