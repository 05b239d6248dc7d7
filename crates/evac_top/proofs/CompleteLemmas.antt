-- A run in which neither count of faults rose answers its input.
use Rattle.std.proofs.Common.{◌≡◌, ℕ, ◌+◌, ◌≤◌, ◌⊎◌, List, [], ◌∷◌, ◌++◌, length, Result, Ok, Err, Some, None, refl, sym, ap, ◌∙◌, arith, inl, inr}
use Rattle.std.specs.declared.option.Option.{Option}
use Rattle.std.proofs.lemmas.Bool.{cases_eq}
use Rattle.evac_law.specs.declared.code.Code.{Code}
use Rattle.evac_law.specs.declared.model.Model.{Model}
use Rattle.evac_law.specs.Building.{IsValid}
use Rattle.evac_law.specs.Certificates.{IsClearable}
use Rattle.line_io.specs.Line.{Line, lines_of, text_lines}
use Rattle.model_text.specs.Readings.{Reading, Described, Refused, model_of}
use Rattle.evac_top.specs.Accounts.{Account}
use Rattle.evac_top.specs.Answers.{runs_of}
use Rattle.building_table.specs.Names.{NameTable, names_of}
use Rattle.plan_checker.specs.Verdicts.{IsRight}
use Rattle.evac_top.specs.Check.{Checks, IsChecked, verdict_status}
use Rattle.evac_top.specs.Complete.{ChecksAll, PlansAll, SolvesAll, TalksAll, UpgradesAll}
use Rattle.evac_top.specs.Inputs.{Asked, Claimed, ClaimsBehind, IsClaimOf, claim_by, input_of}
use Rattle.evac_top.specs.Runs.{RunsAnswer}
use Rattle.evac_top.specs.Solve.{IsPlannedOrShort, Solves}
use Rattle.evac_top.specs.Talking.{TalkOn, Talks, spoken}
use Rattle.evac_top.specs.Upgrade.{Upgrades}
use Rattle.evac_top.specs.declared.words.Flags.{Flags}
use Rattle.evac_top.specs.declared.words.Mode.{Mode}
use Rattle.evac_top.specs.declared.words.Mode.TheVariants.{Solve, Check, Session, Study, Replan, Upgrade, Drill}
use Rattle.model_text.specs.Taken.{Description}
use Rattle.talk.specs.ReplanTalks.{replan}
use Rattle.talk.specs.Sessions.{session}
use Rattle.talk.specs.Studies.{study}
use Rattle.talk.specs.Short.{OpensShort}
use Rattle.talk.specs.Talks.{EndsAt, Reply, Spoken, Talk}
use Rattle.model_text.proofs.ReadingLemmas.{opening-valid}
use Rattle.block_reader.proofs.OneReading.{one-reading}
use Rattle.evac_top.proofs.ClaimLemmas.{status-few}
use Rattle.evac_top.proofs.SolveLemmas.{opening-clears}
use Rattle.evac_top.proofs.TellLemmas.{of-input}

plans-all : (flags : Flags) (names : NameTable) (m : Model) (line : ℕ) (x : Account) → IsPlannedOrShort flags names m line x → PlansAll m line x
plans-all flags names m line x (inl h) = inl (opening-clears m h.opening h.begins, h.done)
plans-all flags names m line x (inr h) = inr (h.barred_by.not_clearable, h.refused, h)

solves-all : (flags : Flags) (input : List ℕ) (result : Result Asked (Code × ℕ)) (x : Account) → Solves flags input result x → SolvesAll result x
solves-all flags input (Ok asked) x h = plans-all flags (names_of asked.building) asked.building.model asked.last x h.1
solves-all flags input (Err fault) x h = h

checks-block : (claimed : Claimed) (x : Account) → let m = claimed.building.model in IsChecked m claimed.block x
    → (IsRight m claimed.block × (x.status ≡ 0)) ⊎ ((¬ IsRight m claimed.block) × (x.status ≡ 1))
checks-block claimed x h =
    let ends : x.status ≡ verdict_status h.verdict = h.ends.over in
    let few = status-few h.verdict in
    elim (cases_eq x.status 0) [
      | inl good ↦ inl (h.yes good, good)
      | inr bad ↦ inr (λ right. bad (h.right right), omega (arith, ends, few, bad))
    ]

checks-all : (input : List ℕ) (result : Result Claimed (Code × ℕ)) (x : Account) → Checks input result x → ChecksAll result x
checks-all input (Ok claimed) x h = checks-block claimed x h.1
checks-all input (Err fault) x h = h

-- lines are read in one way
one-claim : (r : Reading) → ((d : Description) (last : ℕ) (rest : List Line) → r ≡ Described d last rest → IsValid d.model) → (one other : Result Claimed (Code × ℕ)) → ClaimsBehind r one
    → ClaimsBehind r other → other ≡ one
one-claim (Described d last rest) valid one other h g = g.2 ∙ ap (claim_by d) (one-reading d.model last rest g.0 h.0 (valid d last rest refl) g.1 h.1) ∙ sym h.2
one-claim (Refused code line) valid one other h g = g ∙ sym h

one-claim-of : (lines : List Line) (one other : Result Claimed (Code × ℕ)) → IsClaimOf lines one → IsClaimOf lines other → other ≡ one
one-claim-of lines one other h g = one-claim (model_of lines) (λ d last rest e. opening-valid lines 0 d last rest e) one other h g

-- no fault is among lines that have none
never-fault : (texts answered : List (List ℕ)) (code : Code) (rest : List Line) → text_lines texts ≡ text_lines answered ++ (Err code ∷ rest) → ⊥
never-fault [] [] code rest e = cc
never-fault [] (a ∷ more) code rest e = cc
never-fault (t ∷ texts) [] code rest e = cc
never-fault (t ∷ texts) (a ∷ more) code rest e = let tail : text_lines texts ≡ text_lines more ++ (Err code ∷ rest) = cc in never-fault texts more code rest tail

-- so a talk over them is done
ends-done : {S : Type 0} (talk : Talk S) (before : ℕ) (rest : List Line) (r : Reply S) (x : Spoken) (texts answered : List (List ℕ))
    → text_lines texts ≡ text_lines answered ++ rest → EndsAt talk before rest r x → x.status ≡ 0
ends-done talk before [] r x texts answered e h = ap (λ (s : Spoken). s.status) h
ends-done talk before (Ok line ∷ rest) r x texts answered e h = ap (λ (s : Spoken). s.status) h.1
ends-done talk before (Err code ∷ rest) r x texts answered e h = absurd (never-fault texts answered code rest e)

-- a talk that opens just where the building can be cleared
talks-all : {S : Type 0} (talk : TalkOn S) → ((names : NameTable) (m : Model) (r : Reply S) → (talk names m).Opens r → IsClearable m)
    → ((names : NameTable) (m : Model) (line : ℕ) (x : Spoken) → (talk names m).Refuses line x → OpensShort m line x) → (r : Reading) (x : Account)
    → Talks talk r x → TalksAll talk r x
talks-all talk clears short (Described d last rest) x (inl run) =
    inl (
      clears (names_of d) d.model run.goes.opening run.goes.opens,
      run,
      λ texts whole. ends-done (talk (names_of d) d.model) (last + length run.answered) run.rest run.replies (spoken x) texts run.answered (sym whole ∙ run.parts) run.ends,
    )
talks-all talk clears short (Described d last rest) x (inr refused) =
    let barred = short (names_of d) d.model last (spoken x) refused in inr (barred.short.barred_by.not_clearable, barred)
talks-all talk clears short (Refused code line) x h = h

sessions-all : (r : Reading) (x : Account) → Talks session r x → TalksAll session r x
sessions-all r x h = talks-all session (λ names m reply opens. opening-clears m reply.after.standing opens.begins) (λ names m line y refused. refused) r x h

studies-all : (r : Reading) (x : Account) → Talks study r x → TalksAll study r x
studies-all r x h = talks-all study (λ names m reply opens. opens.clearable) (λ names m line y refused. refused) r x h

replans-all : (r : Reading) (x : Account) → Talks replan r x → TalksAll replan r x
replans-all r x h =
    talks-all replan (λ names m reply opens. opening-clears m opens.0.after.standing opens.1.begins) (λ names m line y refused. refused) r x h

upgrades-all : (input : List ℕ) (result : Result Asked (Code × ℕ)) (x : Account) → Upgrades input result x → UpgradesAll result x
upgrades-all input (Ok asked) x h = h.1.over
upgrades-all input (Err fault) x h = h

answers-all : (mode : Option Mode) (input : List ℕ) (x : Account) → (runs_of mode).Answers input x → (runs_of mode).AnswersAll input x
unfolding runs_of
answers-all None input x h = h.1.over
answers-all (Some (Solve flags)) input x h = solves-all flags input (input_of (lines_of input)) x h
answers-all (Some Check) input x (claim, is, h) = record { claim = claim; of_lines = is; alone = λ other g. one-claim-of (lines_of input) claim other is g; answered = checks-all input claim x h }
answers-all (Some Session) input x h = sessions-all (model_of (lines_of input)) x h.0
answers-all (Some Study) input x h = studies-all (model_of (lines_of input)) x h.0
answers-all (Some Replan) input x h = replans-all (model_of (lines_of input)) x h.0
answers-all (Some Upgrade) input x h = upgrades-all input (input_of (lines_of input)) x h
answers-all (Some (Drill n)) input x h = h.1.ends.over

pub runs_answer : RunsAnswer
runs_answer mode status before after r reads_kept writes_kept memory =
    let three : status ≡ 3 → ⊥ = λ e. reads_kept (r.causes.reads_rose e) in
    let four : status ≡ 4 → ⊥ = λ e. writes_kept (r.causes.writes_rose e) in
    let known : status ≤ 5 = r.causes.known in
    of-input (runs_of mode).reads before.source.bytes (λ input. (runs_of mode).Answers input r.did) (λ input. (runs_of mode).AnswersAll input r.did)
    (λ input. answers-all mode input r.did) (r.answered (omega (arith, known, three, four, memory)))
