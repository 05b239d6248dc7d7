-- What a run must answer in which neither count of faults rose and there was memory, by what it reads.
use Rattle.std.specs.Prelude.{◌≡◌, ℕ, ◌⊎◌, List, Result, Ok, Err}
use Rattle.evac_law.specs.declared.code.Code.{Code}
use Rattle.evac_law.specs.declared.model.Model.{Model}
use Rattle.evac_law.specs.Certificates.{IsClearable}
use Rattle.line_io.specs.Line.{Line, text_lines}
use Rattle.model_text.specs.Readings.{Reading, Described, Refused}
use Rattle.building_table.specs.Names.{names_of}
use Rattle.plan_checker.specs.Verdicts.{IsRight}
use Rattle.talk.specs.Short.{OpensShort}
use Rattle.talk.specs.Talks.{TalkRun}
use Rattle.evac_top.specs.Accounts.{Account, IsRefusal}
use Rattle.evac_top.specs.Inputs.{Asked, Claimed, IsClaimOf}
use Rattle.evac_top.specs.Solve.{IsShort}
use Rattle.evac_top.specs.Talking.{TalkOn, spoken}

-- a building whose end is at a line can be cleared and is planned, or it can't and is refused with its shortfall
abbrev pub PlansAll : Model → ℕ → Account → Type 0
PlansAll m line x = (IsClearable m × (x.status ≡ 0)) ⊎ ((¬ IsClearable m) × (x.status ≡ 1) × IsShort m line x)

-- the building of an input is planned or refused; an input with a fault is refused by it
abbrev pub SolvesAll : Result Asked (Code × ℕ) → Account → Type 0
SolvesAll (Ok asked) x = PlansAll asked.building.model asked.last x
SolvesAll (Err fault) x = IsRefusal fault x

-- the building of an input is written; an input with a fault is refused by it
abbrev pub UpgradesAll : Result Asked (Code × ℕ) → Account → Type 0
UpgradesAll (Ok asked) x = x.status ≡ 0
UpgradesAll (Err fault) x = IsRefusal fault x

-- a block is right and answered by yes, or it isn't and answered by no; an input with a fault is refused by it
abbrev pub ChecksAll : Result Claimed (Code × ℕ) → Account → Type 0
ChecksAll (Ok claimed) x = let m = claimed.building.model in (IsRight m claimed.block × (x.status ≡ 0)) ⊎ ((¬ IsRight m claimed.block) × (x.status ≡ 1))
ChecksAll (Err fault) x = IsRefusal fault x

-- lines are read as a building with a block after it, or as a first fault, in one way alone, and that is answered
pub record ChecksLines (lines : List Line) (x : Account) : Type 0 where
  pub claim : Result Claimed (Code × ℕ)
  pub of_lines : IsClaimOf lines claim
  pub alone : (other : Result Claimed (Code × ℕ)) → IsClaimOf lines other → other ≡ claim
  pub answered : ChecksAll claim x

-- a building can be cleared, and the lines after it are answered up to the end: the talk is done if no line has a fault of its own. Or it can't be
-- cleared and is refused with its shortfall. A model with a fault is refused by it
abbrev pub TalksAll : {S : Type 0} → TalkOn S → Reading → Account → Type 0
TalksAll talk (Described d last rest) x =
    (IsClearable d.model × TalkRun (talk (names_of d) d.model) last rest (spoken x) × ((texts : List (List ℕ)) → rest ≡ text_lines texts → x.status ≡ 0))
    ⊎ ((¬ IsClearable d.model) × OpensShort d.model last (spoken x))
TalksAll talk (Refused code line) x = IsRefusal (code, line) x
