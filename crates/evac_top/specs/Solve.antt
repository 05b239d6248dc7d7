-- What a run in the mode `solve` does: the block of a building's best plan with the reports that are asked for, or the block of its shortfall.
use Rattle.std.specs.Prelude.{◌≡◌, ℕ, ◌+◌, ◌*◌, ◌≤◌, Bool, true, false, List, [], ◌++◌, Result, Ok, Err, ◌⊎◌}
use Rattle.evac_law.specs.declared.code.Code.{Code}
use Rattle.evac_law.specs.declared.model.Model.{Model}
use Rattle.evac_law.specs.Cuts.{Cut}
use Rattle.evac_law.specs.Parts.{IsBarredBy}
use Rattle.evac_law.specs.Plans.{IsEarliest}
use Rattle.building_table.specs.Names.{NameTable, names_of}
use Rattle.certificate_text.specs.BlockText.{shortfall_text}
use Rattle.edit_session.specs.Sessions.{Begins, SessionState}
use Rattle.report_text.specs.ReportText.{SaysCards}
use Rattle.session_text.specs.StateTexts.{SaysReports, SaysRoutesOf, block_text}
use Rattle.evac_top.specs.Accounts.{Account, IsRefusal}
use Rattle.evac_top.specs.Inputs.{Asked}
use Rattle.evac_top.specs.declared.words.Flags.{Flags}

-- a text that is there where it is asked for
abbrev pub Where : Bool → (List ℕ → Type 0) → List ℕ → Type 0
Where true Says text = Says text
Where false Says text = text ≡ []

-- what is asked for between the block of a state and the reports on it: its routes, and its cards
pub record SaysAsked (flags : Flags) (s : SessionState) (text : List ℕ) : Type 0 where
  pub routes : List ℕ
  pub says_routes : Where flags.routes (SaysRoutesOf 0 s) routes
  pub cards : List ℕ
  pub says_cards : Where flags.cards (SaysCards 0 s.model s.plan) cards
  pub parts : text ≡ routes ++ cards

-- the block of a state, after it what is asked for, and last the reports on it, where they are asked for too
pub record SaysPlan (flags : Flags) (names : NameTable) (s : SessionState) (text : List ℕ) : Type 0 where
  pub asked : List ℕ
  pub says_asked : SaysAsked flags s asked
  pub reports : List ℕ
  pub says_reports : Where flags.reports (SaysReports names 0 s) reports
  pub parts : text ≡ block_text 0 s ++ asked ++ reports

-- a building is answered by the block of a plan that takes everybody out, with a cut for each period that is worth as many as are out by then;
-- so no feasible plan has more people out by any period. After it comes what is asked for. As many steps are counted as people were sent on
pub record IsPlanned (flags : Flags) (names : NameTable) (m : Model) (x : Account) : Type 0 where
  pub opening : SessionState
  pub begins : Begins m opening
  pub best : IsEarliest m opening.plan
  pub done : x.status ≡ 0
  pub says : SaysPlan flags names opening x.written
  pub counted : x.steps ≡ opening.work.pushes

-- a building whose end is at a line is refused there, with a cut that is worth fewer at the horizon than there are people: so many can get out when the
-- others aren't there, and no more
pub record IsShort (m : Model) (line : ℕ) (x : Account) : Type 0 where
  pub cut : Cut
  pub most : ℕ
  pub barred_by : IsBarredBy m cut most
  pub refused : x.status ≡ 1
  pub block : x.written ≡ shortfall_text line m cut most
  pub few_steps : x.steps ≤ (m.horizon + 1) * most

-- a building whose end is at a line is planned, or refused there
abbrev pub IsPlannedOrShort : Flags → NameTable → Model → ℕ → Account → Type 0
IsPlannedOrShort flags names m line x = IsPlanned flags names m x ⊎ IsShort m line x

-- all of an input of `solve` is read, and its building is planned or refused; or its first fault is named
abbrev pub Solves : Flags → List ℕ → Result Asked (Code × ℕ) → Account → Type 0
Solves flags input (Ok asked) x = (x.taken ≡ input) × IsPlannedOrShort flags (names_of asked.building) asked.building.model asked.last x
Solves flags input (Err fault) x = IsRefusal fault x
