-- What two runs have in common, by what each was given and came to.
use Rattle.std.specs.Prelude.{◌≡◌, ℕ, ◌+◌, ◌≤◌, false, List, ◌++◌, length, Ok, Some}
use Rattle.evac_law.specs.declared.model.Model.{Model}
use Rattle.evac_law.specs.Building.{people}
use Rattle.line_io.specs.Line.{IsWhole, input_limit, lines_of}
use Rattle.building_table.specs.Names.{NameTable, names_of}
use Rattle.certificate_text.specs.BlockLaws.{block_limit}
use Rattle.certificate_text.specs.BlockText.{answer_line, cleared_line, out_lines, people_line}
use Rattle.edit_session.specs.Sessions.{Begins, SessionState}
use Rattle.session_text.specs.StateTexts.{SaysSummary}
use Rattle.evac_top.specs.Accounts.{Account}
use Rattle.evac_top.specs.Answers.{runs_of}
use Rattle.evac_top.specs.Inputs.{Asked, input_of}
use Rattle.evac_top.specs.Solve.{Where}
use Rattle.evac_top.specs.Words.{asking}
use Rattle.evac_top.specs.declared.words.Flags.{Flags}
use Rattle.evac_top.specs.declared.words.Mode.{Mode}
use Rattle.evac_top.specs.declared.words.Mode.TheVariants.{Check, Drill, Session, Solve, Upgrade}

-- a run in a mode answers an input
abbrev pub Answered : Mode → List ℕ → Account → Type 0
Answered mode input x = (runs_of (Some mode)).Answers input x

-- the mode `solve` with nothing more asked for
abbrev pub solve_alone : Mode
solve_alone = Solve (asking false false)

-- ---- solve, and then check

-- `check` of an input that `solve` planned, followed by what it wrote, says yes, where the input's last line has its end and there is room for a block
abbrev pub SolvedIsChecked : Type 0
SolvedIsChecked =
    (input : List ℕ) (x y : Account) → IsWhole input → length input + block_limit ≤ input_limit → Answered solve_alone input x → x.status ≡ 0
    → Answered Check (input ++ x.written) y → y.status ≡ 0

-- ---- upgrade, and then upgrade

-- what `upgrade` wrote is upgraded to the same bytes
abbrev pub UpgradedTwice : Type 0
UpgradedTwice =
    (input : List ℕ) (asked : Asked) (x y : Account) → input_of (lines_of input) ≡ Ok asked → Answered Upgrade input x → Answered Upgrade x.written y
    → (y.status ≡ 0) × (y.written ≡ x.written)

-- ---- two best plans of one building

-- the lines `answer`, `people`, `cleared` and `out` of a state's block
abbrev pub head_text : ℕ → SessionState → List ℕ
head_text index s = answer_line index ++ people_line (people s.model) ++ cleared_line s.last ++ out_lines s.model s.plan s.last

-- two texts on a building begin with the same such lines, and end with the same summary where reports are asked for
pub record AreTextsAlike (flags : Flags) (names : NameTable) (m : Model) (x y : List ℕ) : Type 0 where
  pub opening : SessionState
  pub begins : Begins m opening
  pub summary : List ℕ
  pub says_summary : Where flags.reports (SaysSummary names 0 opening) summary
  pub of_x : List ℕ
  pub of_y : List ℕ
  pub parts_x : x ≡ head_text 0 opening ++ (of_x ++ summary)
  pub parts_y : y ≡ head_text 0 opening ++ (of_y ++ summary)

-- two accounts of a building have the same status, and where it is 0 such texts
abbrev pub EndAlike : Flags → NameTable → Model → Account → Account → Type 0
EndAlike flags names m x y = (x.status ≡ y.status) × (x.status ≡ 0 → AreTextsAlike flags names m x.written y.written)

-- whatever best plans two runs of `solve` find
abbrev pub SolvesAgree : Type 0
SolvesAgree =
    (flags : Flags) (input : List ℕ) (asked : Asked) (x y : Account) → input_of (lines_of input) ≡ Ok asked → Answered (Solve flags) input x
    → Answered (Solve flags) input y → EndAlike flags (names_of asked.building) asked.building.model x y

-- `solve` of what `upgrade` wrote
abbrev pub UpgradedSolvesAlike : Type 0
UpgradedSolvesAlike =
    (flags : Flags) (input : List ℕ) (asked : Asked) (w x y : Account) → input_of (lines_of input) ≡ Ok asked → Answered Upgrade input w
    → Answered (Solve flags) input x → Answered (Solve flags) w.written y → EndAlike flags (names_of asked.building) asked.building.model x y

-- a session with no line after its building that says anything
abbrev pub SessionSolvesAlike : Type 0
SessionSolvesAlike =
    (input : List ℕ) (asked : Asked) (x y : Account) → input_of (lines_of input) ≡ Ok asked → Answered solve_alone input x → Answered Session input y
    → EndAlike (asking false false) (names_of asked.building) asked.building.model x y

-- whatever best plan a drill has, its summary is the same
abbrev pub DrillsAgree : Type 0
DrillsAgree =
    (n : ℕ) (i j : List ℕ) (x y : Account) → Answered (Drill n) i x → Answered (Drill n) j y → (x.status ≡ y.status) × (x.written ≡ y.written)
