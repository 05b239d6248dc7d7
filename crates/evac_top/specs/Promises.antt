-- What every run of a study, a check, an upgrade and a drill keeps, in the law's words.
use Rattle.std.specs.Prelude.{◌≡◌, ℕ, ◌+◌, ◌<◌, ◌≤◌, List, [], ◌++◌, length, Result, Ok, Err, Some, ⊤}
use Rattle.std.specs.List.{All}
use Rattle.evac_law.specs.declared.code.Code.{Code}
use Rattle.evac_law.specs.declared.model.Model.{Model}
use Rattle.evac_law.specs.declared.plan.Move.{Move}
use Rattle.evac_law.specs.Building.{people}
use Rattle.evac_law.specs.Cuts.{Cut}
use Rattle.evac_law.specs.Parts.{IsBarredBy}
use Rattle.evac_law.specs.Plans.{IsFeasible, out_by}
use Rattle.line_io.specs.Line.{Line, lines_of, text_lines}
use Rattle.model_text.specs.declared.fault.TextFault.{TextFault}
use Rattle.model_text.specs.declared.study.StudyCommand.{StudyCommand}
use Rattle.model_text.specs.declared.study.StudyCommand.TheVariants.{Exits}
use Rattle.model_text.specs.Readings.{model_of}
use Rattle.model_text.specs.StudyCommands.{study_command_of}
use Rattle.model_text.specs.Taken.{Description}
use Rattle.building_table.specs.Names.{names_of}
use Rattle.certificate_text.specs.declared.block.Block.{Block}
use Rattle.clearing_report.specs.Walks.{IsUncongested}
use Rattle.drill_building.specs.Drill.{drill_model}
use Rattle.drill_building.specs.Summary.{drill_text, figures_of}
use Rattle.edit_session.specs.Sessions.{Begins, SessionState}
use Rattle.exit_study.specs.Exits.{without_exit}
use Rattle.exit_study.specs.declared.exits.ExitRow.{ExitRow}
use Rattle.exit_study.specs.declared.exits.ExitRow.TheVariants.{Clears, Short}
use Rattle.model_writer.specs.ModelText.{model_text, said_of}
use Rattle.plan_checker.specs.declared.verdict.Verdict.TheVariants.{Yes}
use Rattle.plan_checker.specs.Verdicts.{IsRight}
use Rattle.talk.specs.Studies.{OpensStudy, StudyReplies, study}
use Rattle.talk.specs.StudyTexts.{SaysExits}
use Rattle.talk.specs.Talks.{EndsAt, RepliesTo, Reply, followed}
use Rattle.evac_top.specs.Accounts.{Account, Ends, IsRefusal, Outside}
use Rattle.evac_top.specs.Answers.{runs_of}
use Rattle.evac_top.specs.Check.{IsChecked, verdict_text}
use Rattle.evac_top.specs.Headline.{IsBestPlan, KeepsTalk}
use Rattle.evac_top.specs.Inputs.{Asked, Claimed, IsClaimOf, input_of}
use Rattle.evac_top.specs.Runs.{OfInput, Runs, RunsKeep}
use Rattle.evac_top.specs.Talking.{ReadsOn, spoken}
use Rattle.evac_top.specs.declared.words.Mode.TheVariants.{Check, Drill, Study, Upgrade}

-- ---- a study

-- not everybody can get out of a building of so many people: no feasible plan takes all out, nor more by the horizon than `most`; and so many can get
-- out when the others aren't there, and no more
pub record IsStuck (m : Model) (all most : ℕ) : Type 0 where
  pub count : all ≡ people m
  pub fewer : most < all
  pub cut : Cut
  pub barred_by : IsBarredBy m cut most
  pub bound : (p : List Move) → IsFeasible m p m.horizon → out_by m p m.horizon ≤ most

-- what a row says of a building without an exit: the moment by which a best plan has everybody out, or that not everybody can get out
abbrev pub IsRightRow : Model → ExitRow → Type 0
IsRightRow m (Clears c) = (p : List Move) × IsBestPlan m p c
IsRightRow m (Short all most) = IsStuck m all most

-- the text says what the building comes to without each of its exits, and each row is right
pub record SaysRightRows (m : Model) (text : List ℕ) : Type 0 where
  pub says : SaysExits m text
  pub right : All (λ row. IsRightRow (without_exit m row.exit) row.outcome) says.rows

-- the rows of the exits are right; the least rate of an arc is said in these words already
abbrev pub KeepsRows : Model → Result StudyCommand TextFault → Reply (Unit {0}) → Type 0
KeepsRows m (Ok Exits) r = SaysRightRows m r.text
KeepsRows m command r = ⊤

-- what a study wrote on a building and some lines after it: what each line got, up to the end
pub record KeepsStudy (d : Description) (last : ℕ) (lines : List Line) (x : Account) : Type 0 where
  pub answered : List (List ℕ)
  pub rest : List Line
  pub parts : lines ≡ text_lines answered ++ rest
  pub opening : Reply (Unit {0})
  pub more : Reply (Unit {0})
  pub opens : OpensStudy d.model opening
  pub replies : RepliesTo (λ line s text r. StudyReplies (names_of d) d.model line (study_command_of text) r × KeepsRows d.model (study_command_of text) r)
      last opening.after answered more
  pub ends : EndsAt (study (names_of d) d.model) (last + length answered) rest (followed opening more) (spoken x)

-- each run of a study keeps that
abbrev pub StudyKeepsPromise : Type 0
StudyKeepsPromise = RunsKeep Study (λ input x. KeepsTalk KeepsStudy (model_of (lines_of input)) x × ReadsOn study input x)

-- ---- a check

-- a block is answered by its verdict, which is yes exactly where the block is right; and then its plan is a best one
pub record KeepsVerdict (m : Model) (b : Block) (x : Account) : Type 0 where
  pub checked : IsChecked m b x
  pub plan : x.status ≡ 0 → IsBestPlan m b.moves b.cleared

-- by what is read: all of a building with a block after it is taken and judged, and a fault is refused by its line
abbrev pub KeepsClaim : List ℕ → Result Claimed (Code × ℕ) → Account → Type 0
KeepsClaim input (Ok claimed) x = (x.taken ≡ input) × KeepsVerdict claimed.building.model claimed.block x
KeepsClaim input (Err fault) x = IsRefusal fault x

-- each run of a check keeps that
abbrev pub ChecksKeepPromise : Type 0
ChecksKeepPromise = RunsKeep Check (λ input x. (claim : Result Claimed (Code × ℕ)) × IsClaimOf (lines_of input) claim × KeepsClaim input claim x)

-- what yes means: an input states a building with a block after it that is right, and the block's plan is a best one
pub record IsYes (input : List ℕ) (x : Account) : Type 0 where
  pub claimed : Claimed
  pub states : IsClaimOf (lines_of input) (Ok claimed)
  pub all : x.taken ≡ input
  pub says : x.written ≡ verdict_text claimed.building.model Yes
  pub right : IsRight claimed.building.model claimed.block
  pub plan : IsBestPlan claimed.building.model claimed.block.moves claimed.block.cleared

-- a check that ends with status 0 was given such an input; that is the only premise
abbrev pub YesIsBest : Type 0
YesIsBest =
    (status : ℕ) (before after : Outside) (r : Runs (Some Check) status before after) → status ≡ 0
    → OfInput (runs_of (Some Check)).reads before.source.bytes (λ input. IsYes input r.did)

-- ---- an upgrade

-- all of a building is taken, and what is written of it is read as the same building, with nothing after it; a fault is refused by its line
abbrev pub KeepsUpgrade : List ℕ → Result Asked (Code × ℕ) → Account → Type 0
KeepsUpgrade input (Ok asked) x =
    let b = asked.building in
    (x.taken ≡ input) × Ends x 0 (model_text b) 0 × (input_of (lines_of x.written) ≡ Ok (record { building = b; last = length (said_of b) }))
KeepsUpgrade input (Err fault) x = IsRefusal fault x

-- each run of an upgrade keeps that
abbrev pub UpgradesKeepPromise : Type 0
UpgradesKeepPromise = RunsKeep Upgrade (λ input x. KeepsUpgrade input (input_of (lines_of input)) x)

-- ---- a drill

-- the summary that was written is that of a best plan of the drill's building
pub record KeepsSummary (n : ℕ) (x : Account) : Type 0 where
  pub opening : SessionState
  pub begins : Begins (drill_model n) opening
  pub plan : IsBestPlan (drill_model n) opening.plan opening.last
  pub time : ℕ
  pub uncongested : IsUncongested (drill_model n) (Some time)
  pub ends : let m = drill_model n in Ends x 0 (drill_text n m (figures_of m opening.plan opening.last time)) opening.work.pushes

-- nothing is read, and the summary of a best plan is written
abbrev pub KeepsDrill : ℕ → Account → Type 0
KeepsDrill n x = (x.taken ≡ []) × KeepsSummary n x

-- each run of a drill keeps that
abbrev pub DrillsKeepPromise : Type 0
DrillsKeepPromise = (n : ℕ) → RunsKeep (Drill n) (λ input x. KeepsDrill n x)
