-- Every run of a study, a check, an upgrade and a drill keeps its promise.
use Rattle.std.specs.declared.option.Option.{Option}
use Rattle.std.proofs.Common.{◌≡◌, Some, None, ℕ, ◌+◌, ◌<◌, true, List, [], ◌∷◌, length, map, Result, Ok, Err, refl, sym, ap, subst, ◌∙◌, arith, inl, inr}
use Rattle.std.specs.List.{All}
use Rattle.std.proofs.lemmas.List.Elements.{All-filter, All-head, All-tail, All-cons, All-nil, filter_passes}
use Rattle.evac_law.specs.declared.code.Code.{Code}
use Rattle.evac_law.specs.declared.model.Model.{Model}
use Rattle.evac_law.specs.Building.{IsValid, is_exit_at}
use Rattle.evac_law.specs.Certificates.{label_cut}
use Rattle.evac_law.specs.LabelTable.{LabelTable}
use Rattle.evac_law.specs.Sums.{places}
use Rattle.evac_law.proofs.EditLemmas.{valid_shut}
use Rattle.evac_law.proofs.SumLemmas.{All-below}
use Rattle.evac_law.proofs.WeakDuality.{out_le_value}
use Rattle.line_io.specs.Line.{Line, lines_of}
use Rattle.model_text.specs.declared.fault.TextFault.{TextFault}
use Rattle.model_text.specs.declared.study.StudyCommand.{StudyCommand}
use Rattle.model_text.specs.declared.study.StudyCommand.TheVariants.{Exits}
use Rattle.model_text.specs.Readings.{Described, Reading, Refused, model_of}
use Rattle.model_text.specs.StudyCommands.{study_command_of}
use Rattle.model_text.specs.Taken.{Description}
use Rattle.model_text.proofs.ReadingLemmas.{opening-valid}
use Rattle.building_table.specs.Names.{NameTable, names_of}
use Rattle.certificate_text.specs.BlockReadings as blocks
use Rattle.edit_session.specs.Sessions.{IsNotCleared}
use Rattle.exit_study.specs.Exits.{IsExitRow, without_exit}
use Rattle.exit_study.specs.declared.exits.ExitRow.{ExitRow}
use Rattle.exit_study.specs.declared.exits.ExitRow.TheVariants.{Clears, Short}
use Rattle.model_writer.specs.ModelText.{model_text, said_of}
use Rattle.model_writer.proofs.AgainLemmas.{texts-again}
use Rattle.plan_checker.specs.declared.verdict.Verdict.{Verdict}
use Rattle.plan_checker.specs.declared.verdict.Verdict.TheVariants.{Yes}
use Rattle.talk.specs.Studies.{StudyReplies, study}
use Rattle.talk.specs.StudyTexts.{Row, SaysExits, exits_of}
use Rattle.talk.specs.Talks.{EndsAt, Reply, TalkRun}
use Rattle.talk.proofs.TalkLemmas.{replies_keep}
use Rattle.evac_top.specs.Accounts.{Account}
use Rattle.evac_top.specs.Answers.{ChecksInput, runs_of}
use Rattle.evac_top.specs.Check.{Checks, IsChecked, verdict_status, verdict_text}
use Rattle.evac_top.specs.Drill.{IsDrilled}
use Rattle.evac_top.specs.Headline.{IsBestPlan, KeepsTalk}
use Rattle.evac_top.specs.Inputs.{Asked, Claimed, ClaimsBehind, IsClaimOf, claim_by, input_by, input_of, tail_fault, unless_fault}
use Rattle.evac_top.specs.Promises.{ChecksKeepPromise, DrillsKeepPromise, IsRightRow, IsStuck, IsYes, KeepsClaim, KeepsDrill, KeepsRows, KeepsStudy, KeepsSummary, KeepsUpgrade, SaysRightRows, StudyKeepsPromise, UpgradesKeepPromise, YesIsBest}
use Rattle.evac_top.specs.Talking.{ReadsOn, Talks, spoken}
use Rattle.evac_top.specs.Upgrade.{Upgrades}
use Rattle.evac_top.specs.declared.words.Mode.TheVariants.{Check, Drill, Study, Upgrade}
use Rattle.evac_top.proofs.HeadlineLemmas.{best-plan, each-run, keeps-talk}
use Rattle.evac_top.proofs.TellLemmas.{of-input}
use Rattle.evac_top.proofs.UpgradeLemmas.{building-of}

-- ---- a study

stuck : (m : Model) (l : LabelTable) (all most : ℕ) → IsValid m → IsNotCleared m l all most → IsStuck m all most
stuck m l all most valid h = record {
  count = h.count;
  fewer = omega (arith, h.barred_by.shortfall.below_people, h.count);
  cut = label_cut m l m.horizon;
  barred_by = h.barred_by;
  bound = λ p f. omega (arith, out_le_value m (label_cut m l m.horizon) p m.horizon valid f, h.barred_by.shortfall.worth);
}

right-row : (m : Model) (x : ℕ) (l : LabelTable) (row : ExitRow) → IsValid (without_exit m x) → IsExitRow m x l row → IsRightRow (without_exit m x) row
right-row m x l (Clears c) valid h = (h.plan, best-plan (without_exit m x) h.plan h.labels c valid h.certified)
right-row m x l (Short all most) valid h = stuck (without_exit m x) l all most valid h.1

-- a place of a model that is an exit
abbrev IsExitOf : Model → ℕ → Type 0
IsExitOf m x = (x < length m.nodes) × (is_exit_at m x ≡ true)

exits-are : (m : Model) (xs : List ℕ) → All (λ x. x < length m.nodes) xs → All (λ x. is_exit_at m x ≡ true) xs → All (IsExitOf m) xs
exits-are m [] h g = All-nil (IsExitOf m)
exits-are m (x ∷ xs) h g =
    let In : ℕ → Type 0 = λ x. x < length m.nodes in
    let Is : ℕ → Type 0 = λ x. is_exit_at m x ≡ true in
    All-cons (IsExitOf m) x xs (All-head In x xs h, All-head Is x xs g) (exits-are m xs (All-tail In x xs h) (All-tail Is x xs g))

all-exits : (m : Model) → All (IsExitOf m) (exits_of m)
all-exits m =
    let In : ℕ → Type 0 = λ x. x < length m.nodes in
    exits-are m (exits_of m) (All-filter (is_exit_at m) In (places m.nodes) (All-below In (length m.nodes) (λ i l. l))) (filter_passes (is_exit_at m) (places m.nodes))

right-rows : (m : Model) (rows : List Row) → IsValid m → All (IsExitOf m) (map (λ r. r.exit) rows) → All (λ r. IsExitRow m r.exit r.cut r.outcome) rows
    → All (λ r. IsRightRow (without_exit m r.exit) r.outcome) rows
right-rows m [] valid exits h = All-nil (λ (r : Row). IsRightRow (without_exit m r.exit) r.outcome)
right-rows m (r ∷ rows) valid exits h =
    let Right : Row → Type 0 = λ r. IsRightRow (without_exit m r.exit) r.outcome in
    let Is : Row → Type 0 = λ r. IsExitRow m r.exit r.cut r.outcome in
    let xs : List ℕ = map (λ (r : Row). r.exit) rows in
    let is = All-head (IsExitOf m) r.exit xs exits in
    All-cons Right r rows (right-row m r.exit r.cut r.outcome (valid_shut m r.exit true valid is.0 (λ b. is.1)) (All-head Is r rows h))
    (right-rows m rows valid (All-tail (IsExitOf m) r.exit xs exits) (All-tail Is r rows h))

says-right : (m : Model) (text : List ℕ) → IsValid m → SaysExits m text → SaysRightRows m text
says-right m text valid h = record {
  says = h;
  right = right-rows m h.rows valid (subst (λ xs. All (IsExitOf m) xs) (sym h.all.exits) (all-exits m)) h.all.right;
}

keeps-rows : (names : NameTable) (m : Model) (line : ℕ) (c : Result StudyCommand TextFault) (r : Reply (Unit {0})) → IsValid m → StudyReplies names m line c r → KeepsRows m c r
keeps-rows names m line (Ok Exits) r valid h = says-right m r.text valid h
keeps-rows names m line _ r valid h = tt

studies-keep : (d : Description) (last : ℕ) (lines : List Line) (x : Account) → IsValid d.model → TalkRun (study (names_of d) d.model) last lines (spoken x)
    → KeepsStudy d last lines x
studies-keep d last lines x valid run =
    let goes = run.goes in
    record {
      answered = run.answered;
      rest = run.rest;
      parts = run.parts;
      opening = goes.opening;
      more = goes.more;
      opens = goes.opens;
      replies = replies_keep (study (names_of d) d.model).Gets _ (λ line s text r h. (h, keeps-rows (names_of d) d.model line (study_command_of text) r valid h)) last
          goes.opening.after run.answered goes.more goes.replies;
      ends = subst (λ (r : Reply (Unit {0})). EndsAt (study (names_of d) d.model) (last + length run.answered) run.rest r (spoken x)) goes.all run.ends;
    }

-- a building that is read is valid
abbrev IsRead : Reading → Type 0
IsRead r = (d : Description) (last : ℕ) (rest : List Line) → r ≡ Described d last rest → IsValid d.model

when-valid : (r : Reading) (x : Account) → IsRead r → KeepsTalk (λ d last lines x. IsValid d.model → KeepsStudy d last lines x) r x → KeepsTalk KeepsStudy r x
when-valid (Described d last rest) x valid (inl h) = inl (h.0, h.1 (valid d last rest refl))
when-valid (Described d last rest) x valid (inr h) = inr h
when-valid (Refused code line) x valid h = h

keeps-study : (r : Reading) (x : Account) → IsRead r → Talks study r x → KeepsTalk KeepsStudy r x
keeps-study r x valid h =
    when-valid r x valid (keeps-talk study (λ d last lines x. IsValid d.model → KeepsStudy d last lines x) (λ names m reply opens. opens.clearable)
    (λ names m line y refused. refused) (λ d last lines x run valid. studies-keep d last lines x valid run) r x h)

study-kept : (input : List ℕ) (x : Account) → (runs_of (Some Study)).Answers input x → KeepsTalk KeepsStudy (model_of (lines_of input)) x × ReadsOn study input x
unfolding runs_of
study-kept input x h = (keeps-study (model_of (lines_of input)) x (λ d last rest e. opening-valid (lines_of input) 0 d last rest e) h.0, h.1)

pub study_keeps_promise : StudyKeepsPromise
study_keeps_promise = each-run Study _ study-kept

-- ---- a check

yes-plan : (claimed : Claimed) (x : Account) → IsValid claimed.building.model → IsChecked claimed.building.model claimed.block x → x.status ≡ 0
    → IsBestPlan claimed.building.model claimed.block.moves claimed.block.cleared
yes-plan claimed x valid h e =
    let b = claimed.block in best-plan claimed.building.model b.moves b.labels b.cleared valid (h.yes e).certified

claim-valid-by : (r : Reading) (claimed : Claimed) → IsRead r → ClaimsBehind r (Ok claimed) → IsValid claimed.building.model
claim-valid-by (Described d last rest) claimed valid (reading, reads, is) = by reading is
  where
    by : (b : blocks.BlockReading) → Ok claimed ≡ claim_by d b → IsValid claimed.building.model
    by (blocks.Stated b end more) e = by_tail (tail_fault end more) e
      where
        here : Claimed
        here = record { building = d; block = b }

        by_tail : (fault : Option (Code × ℕ)) → Ok claimed ≡ unless_fault fault here → IsValid claimed.building.model
        by_tail None e = let same : claimed ≡ here = cc in subst (λ (c : Claimed). IsValid c.building.model) (sym same) (valid d last rest refl)
        by_tail (Some fault) e = absurd (cc)
    by (blocks.Refused code line) e = absurd (cc)
claim-valid-by (Refused code line) claimed valid e = absurd (cc)

claim-valid : (lines : List Line) (claimed : Claimed) → IsClaimOf lines (Ok claimed) → IsValid claimed.building.model
claim-valid lines claimed h = claim-valid-by (model_of lines) claimed (λ d last rest e. opening-valid lines 0 d last rest e) h

keeps-claim : (input : List ℕ) (claim : Result Claimed (Code × ℕ)) (x : Account) → ((claimed : Claimed) → claim ≡ Ok claimed → IsValid claimed.building.model)
    → Checks input claim x → KeepsClaim input claim x
keeps-claim input (Ok claimed) x valid h = (h.0, record { checked = h.1; plan = yes-plan claimed x (valid claimed refl) h.1 })
keeps-claim input (Err fault) x valid h = h

check-kept : (input : List ℕ) (x : Account) → ChecksInput input x → (claim : Result Claimed (Code × ℕ)) × IsClaimOf (lines_of input) claim × KeepsClaim input claim x
check-kept input x (claim, is, h) = (claim, is, keeps-claim input claim x (λ claimed e. claim-valid (lines_of input) claimed (subst (λ c. IsClaimOf (lines_of input) c) e is)) h)

pub check-answered : (input : List ℕ) (x : Account) → (runs_of (Some Check)).Answers input x → ChecksInput input x
unfolding runs_of
check-answered input x h = h

pub checks_keep_promise : ChecksKeepPromise
checks_keep_promise = each-run Check _ (λ input x h. check-kept input x (check-answered input x h))

-- the verdict at status 0
verdict-yes : (m : Model) (v : Verdict) → verdict_status v ≡ 0 → verdict_text m v ≡ verdict_text m Yes
verdict-yes m Yes e = refl
verdict-yes m _ e = absurd (omega (arith, e))

yes-of : (input : List ℕ) (x : Account) → x.status ≡ 0 → (claim : Result Claimed (Code × ℕ)) → IsClaimOf (lines_of input) claim → KeepsClaim input claim x
    → IsYes input x
yes-of input x e (Ok c) is h =
    let judged = h.1.checked in
    record {
      claimed = c;
      states = is;
      all = h.0;
      says = judged.ends.text_whole ∙ verdict-yes c.building.model judged.verdict (sym judged.ends.over ∙ e);
      right = judged.yes e;
      plan = h.1.plan e;
    }
yes-of input x e (Err f) is ends = absurd (omega (arith, e, ends.over))

pub yes_is_best : YesIsBest
yes_is_best status before after r done =
    let over : r.did.status ≡ 0 = r.account.answered ∙ done in
    of-input (runs_of (Some Check)).reads before.source.bytes (λ input. (runs_of (Some Check)).Answers input r.did) (λ input. IsYes input r.did)
    (λ input h. (let kept = check-kept input r.did (check-answered input r.did h) in yes-of input r.did over kept.0 kept.1 kept.2)) (r.answered (omega (arith, done)))

-- ---- an upgrade

pub upgraded-reads-alike : (input : List ℕ) (asked : Asked) → input_of (lines_of input) ≡ Ok asked
    → input_of (lines_of (model_text asked.building)) ≡ Ok (record { building = asked.building; last = length (said_of asked.building) })
unfolding tail_fault
upgraded-reads-alike input asked h =
    let r = building-of (model_of (lines_of input)) asked h in ap input_by (texts-again input asked.building asked.last r.0 r.1).again

keeps-upgrade : (input : List ℕ) (result : Result Asked (Code × ℕ)) (x : Account) → input_of (lines_of input) ≡ result → Upgrades input result x → KeepsUpgrade input result x
keeps-upgrade input (Ok asked) x e (all, ends, again) =
    (all, ends, ap (λ text. input_of (lines_of text)) ends.text_whole ∙ upgraded-reads-alike input asked e)
keeps-upgrade input (Err fault) x e h = h

upgrade-kept : (input : List ℕ) (x : Account) → (runs_of (Some Upgrade)).Answers input x → KeepsUpgrade input (input_of (lines_of input)) x
unfolding runs_of
upgrade-kept input x h = keeps-upgrade input (input_of (lines_of input)) x refl h

pub upgrades_keep_promise : UpgradesKeepPromise
upgrades_keep_promise = each-run Upgrade _ upgrade-kept

-- ---- a drill

keeps-summary : (n : ℕ) (x : Account) → IsDrilled n x → KeepsSummary n x
keeps-summary n x h =
    let s = h.opening in
    let good = h.begins.solved in
    record {
      opening = s;
      begins = h.begins;
      plan = subst (λ (m : Model). IsBestPlan m s.plan s.last) h.begins.begun (best-plan s.model s.plan s.labels s.last good.valid good.certified);
      time = h.time;
      uncongested = h.uncongested;
      ends = h.ends;
    }

drill-kept : (n : ℕ) (input : List ℕ) (x : Account) → (runs_of (Some (Drill n))).Answers input x → KeepsDrill n x
unfolding runs_of
drill-kept n input x h = (h.0, keeps-summary n x h.1)

pub drills_keep_promise : DrillsKeepPromise
drills_keep_promise n = each-run (Drill n) (λ input x. KeepsDrill n x) (drill-kept n)
