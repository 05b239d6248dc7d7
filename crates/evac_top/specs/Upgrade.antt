-- What a run in the mode `upgrade` does: a building as a text of version 2.
use Rattle.std.specs.Prelude.{◌≡◌, ℕ, List, Result, Ok, Err}
use Rattle.evac_law.specs.declared.code.Code.{Code}
use Rattle.building_table.specs.declared.building.Building.{Building}
use Rattle.model_writer.specs.Laws.{DescribesAgain}
use Rattle.model_writer.specs.ModelText.{building_text, model_text}
use Rattle.evac_top.specs.Accounts.{Account, Ends, IsRefusal}
use Rattle.evac_top.specs.Inputs.{Asked}

-- a building is answered by its text
abbrev pub IsUpgraded : Building → Account → Type 0
IsUpgraded building x = Ends x 0 (building_text building) 0

-- all of an input of `upgrade` is read, and its building is written as a text that describes it again; or its first fault is named
abbrev pub Upgrades : List ℕ → Result Asked (Code × ℕ) → Account → Type 0
Upgrades input (Ok asked) x = (x.taken ≡ input) × Ends x 0 (model_text asked.building) 0 × DescribesAgain asked.building
Upgrades input (Err fault) x = IsRefusal fault x
