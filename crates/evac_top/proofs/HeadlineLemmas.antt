-- Every run of a session and of a replan and every plan that is written keeps the headline.
use Rattle.std.specs.declared.option.Option.{Option}
use Rattle.std.proofs.Common.{◌≡◌, ◌≢◌, Some, ℕ, zero, suc, ◌+◌, ◌<◌, ◌≤◌, Bool, true, false, ◌&&◌, nat_lt, List, [], ◌∷◌, length, Result, Ok, Err, sym, ap, subst, ◌∙◌, arith, inl, inr}
use Rattle.evac_law.specs.declared.code.Code.{Code}
use Rattle.evac_law.specs.declared.edit.Edit.{Edit}
use Rattle.evac_law.specs.declared.edit.EditFault.{EditFault}
use Rattle.evac_law.specs.declared.model.Model.{Model}
use Rattle.evac_law.specs.declared.plan.Move.{Move}
use Rattle.evac_law.specs.Building.{IsValid, people}
use Rattle.evac_law.specs.Certificates.{IsCertified, IsClearable}
use Rattle.evac_law.specs.Edits.{applied}
use Rattle.evac_law.specs.LabelTable.{LabelTable}
use Rattle.evac_law.specs.Plans.{out_by}
use Rattle.evac_law.proofs.Optimal.{certified_is_best, certified_is_feasible, out_le_out, stated_cut_is_worth}
use Rattle.line_io.specs.Causes.{Rose}
use Rattle.line_io.specs.Line.{Line, lines_of}
use Rattle.model_text.specs.declared.command.Command.{Command}
use Rattle.model_text.specs.declared.command.Command.TheVariants as commands
use Rattle.model_text.specs.declared.command.Report.{Report}
use Rattle.model_text.specs.declared.command.Report.TheVariants.{Routes, Summary}
use Rattle.model_text.specs.declared.fault.TextFault.{TextFault}
use Rattle.model_text.specs.Commands.{command_of}
use Rattle.model_text.specs.Readings.{Described, Reading, Refused, model_of}
use Rattle.model_text.specs.Taken.{Description}
use Rattle.building_table.specs.declared.faults.NameFault.{NameFault}
use Rattle.building_table.specs.EditNames.{edit_named}
use Rattle.building_table.specs.Names.{NameTable, names_of}
use Rattle.certificate_text.proofs.AnswerBack.{reads_back}
use Rattle.edit_session.specs.Sessions.{IsSolved, with_former}
use Rattle.edit_session.specs.Thrift.{IsThrifty, IsThriftyOpening}
use Rattle.talk.specs.ReplanTalks.{AdvancesTo, AsksSession, CarriesOut, Replanned, RowOf, asks_of_people, bars_moment, replan, request_of}
use Rattle.talk.specs.declared.replans.request.Request.{Request}
use Rattle.talk.specs.declared.replans.request.Request.TheVariants as requests
use Rattle.talk.specs.Sessions.{Advances, AsksEdit, Edits, IsAnswerText, Replies, Reports, State, Undoes, session}
use Rattle.talk.specs.Short.{OpensShort}
use Rattle.talk.specs.Talks.{EndsAt, Reply, Spoken, TalkRun, says}
use Rattle.talk.proofs.TalkLemmas.{replies_keep}
use Rattle.talk.proofs.Bridge.{answer_of}
use Rattle.talk.proofs.Same.{cut_stays}
use Rattle.evac_top.specs.Accounts.{Account, Outside}
use Rattle.evac_top.specs.Answers.{runs_of}
use Rattle.evac_top.specs.Headline.{IsBestBlock, IsBestPlan, IsCarriedOut, KeepsAll, KeepsBlock, KeepsCarried, KeepsPlan, KeepsPromise, KeepsReplan, KeepsTalk, PlansKeepPromise, ReplansKeepPromise, SessionsKeepPromise}
use Rattle.evac_top.specs.Inputs.{Asked, input_of}
use Rattle.evac_top.specs.Runs.{OfInput, Runs, RunsKeep}
use Rattle.evac_top.specs.Solve.{IsPlanned, Solves}
use Rattle.evac_top.specs.Talking.{ReadsOn, TalkOn, Talks, spoken}
use Rattle.evac_top.specs.declared.words.Flags.{Flags}
use Rattle.evac_top.specs.declared.words.Mode.{Mode}
use Rattle.evac_top.specs.declared.words.Mode.TheVariants.{Replan, Session, Solve}
use Rattle.session_text.specs.StateTexts.{block_text}
use Rattle.evac_top.proofs.SolveLemmas.{opening-clears}
use Rattle.evac_top.proofs.TellLemmas.{of-input}

-- ---- one plan and its block

not-before : (m : Model) (p : List Move) (l : LabelTable) (c k : ℕ) → IsCertified m p l c → k < c → out_by m p k < people m
not-before m p l zero k h i = absurd (omega (arith, i))
not-before m p l (suc b) k h i = omega (arith, h.least b (omega arith), out_le_out m p k b (omega (arith, i)))

pub best-plan : (m : Model) (p : List Move) (l : LabelTable) (c : ℕ) → IsValid m → IsCertified m p l c → IsBestPlan m p c
best-plan m p l c valid good = record {
  feasible = certified_is_feasible m p l c m.horizon valid good;
  in_time = good.in_horizon;
  all_out = good.all_out;
  not_before = λ k i. not-before m p l c k good i;
  best = certified_is_best m p l c valid good;
}

pub best-block : (s : State) (text : List ℕ) → IsSolved s.standing → IsAnswerText s text → IsBestBlock s text
best-block s text h a = record {
  block = a.block;
  reads_back = a.reads_back;
  plan = best-plan s.standing.model s.standing.plan s.standing.labels s.standing.last h.valid h.certified;
  cuts = λ k. (stated_cut_is_worth s.standing.model s.standing.plan s.standing.labels s.standing.last k h.valid h.certified).1;
}

-- ---- what a line gets

advances : (s : State) (m : Model) (earlier : List Model) (r : Reply State) → Advances s m earlier r → KeepsPromise s r
advances s m earlier r h =
    let x = r.after.standing in
    inl (record {
      answer = best-block r.after r.text h.goes_on.solved h.answer;
      thrifty = subst (λ (n : Model). IsThrifty s.standing.model s.standing.plan n x.plan x.last x.work) (sym h.goes_on.gone) h.goes_on.thrifty;
      counted = h.counted;
    })

stays : (s : State) (text : List ℕ) (r : Reply State) → r ≡ says s text → KeepsPromise s r
stays s text r h = inr (ap (λ (a : Reply State). a.after) h)

edits : (line : ℕ) (s : State) (made : Result (Model × Edit) EditFault) (r : Reply State) → Edits line s made r → KeepsPromise s r
edits line s (Err fault) r h = stays s _ r h
edits line s (Ok m) r (inl h) = advances s m.0 (with_former s.standing) r h
edits line s (Ok m) r (inr h) = inr h.same

named : (line : ℕ) (s : State) (named : Result Edit NameFault) (r : Reply State) → AsksEdit line s named r → KeepsPromise s r
named line s (Err fault) r h = stays s _ r h
named line s (Ok e) r h = edits line s (applied s.standing.model e) r h

undoes : (line : ℕ) (s : State) (former : List Model) (r : Reply State) → Undoes line s former r → KeepsPromise s r
undoes line s [] r h = stays s _ r h
undoes line s (m ∷ earlier) r h = advances s m earlier r h

reports : (names : NameTable) (s : State) (report : Report) (r : Reply State) → Reports names s report r → KeepsPromise s r
reports names s Routes r h = stays s h.0 r h.2
reports names s Summary r h = stays s h.0 r h.2
reports names s _ r h = stays s _ r h

one_line : (names : NameTable) (line : ℕ) (s : State) (c : Result Command TextFault) (r : Reply State) → Replies names line s c r → KeepsPromise s r
one_line names line s (Ok (commands.Edit edit)) r h = named line s (edit_named names edit) r h
one_line names line s (Ok commands.Undo) r h = undoes line s s.standing.former r h
one_line names line s (Ok (commands.Cut k)) r h = inr (ap (λ (a : Reply State). a.after) h ∙ cut_stays line s k)
one_line names line s (Ok (commands.Report report)) r h = reports names s report r h
one_line names line s (Ok commands.Quit) r h = absurd h
one_line names line s _ r h = stays s _ r h

-- ---- all lines

runs-keep : (d : Description) (last : ℕ) (lines : List Line) (x : Account) → TalkRun (session (names_of d) d.model) last lines (spoken x) → KeepsAll d last lines x
runs-keep d last lines x run =
    let goes = run.goes in
    record {
      answered = run.answered;
      rest = run.rest;
      parts = run.parts;
      opening = goes.opening;
      more = goes.more;
      opens = goes.opens;
      first = best-block goes.opening.after goes.opening.text goes.opens.begins.solved goes.opens.answer;
      replies = replies_keep (session (names_of d) d.model).Gets _ (λ line s text r h. (h, one_line (names_of d) line s (command_of text) r h)) last goes.opening.after run.answered
          goes.more goes.replies;
      ends = subst (λ (r : Reply State). EndsAt (session (names_of d) d.model) (last + length run.answered) run.rest r (spoken x)) goes.all run.ends;
    }

-- ---- any run

-- a run in which neither count of faults rose, and there was memory, answered
answered-all : (mode : Option Mode) (status : ℕ) (before after : Outside) (r : Runs mode status before after) → ¬ Rose before.source.faults after.source.faults
    → ¬ Rose before.sink.faults after.sink.faults → status ≢ 5 → OfInput (runs_of mode).reads before.source.bytes (λ input. (runs_of mode).Answers input r.did)
answered-all mode status before after r reads_kept writes_kept memory =
    let three : status ≡ 3 → ⊥ = λ e. reads_kept (r.causes.reads_rose e) in
    let four : status ≡ 4 → ⊥ = λ e. writes_kept (r.causes.writes_rose e) in
    let known : status ≤ 5 = r.causes.known in
    r.answered (omega (arith, known, three, four, memory))

-- so it keeps what every answer keeps
pub each-run : (mode : Mode) (Keeps : List ℕ → Account → Type 0) → ((input : List ℕ) (x : Account) → (runs_of (Some mode)).Answers input x → Keeps input x)
    → RunsKeep mode Keeps
each-run mode Keeps keeps status before after r reads_kept writes_kept memory =
    of-input (runs_of (Some mode)).reads before.source.bytes (λ input. (runs_of (Some mode)).Answers input r.did) (λ input. Keeps input r.did)
    (λ input. keeps input r.did) (answered-all (Some mode) status before after r reads_kept writes_kept memory)

-- what is kept by a talk that opens just where the building can be cleared
pub keeps-talk : {S : Type 0} (talk : TalkOn S) (Keeps : Description → ℕ → List Line → Account → Type 0)
    → ((names : NameTable) (m : Model) (r : Reply S) → (talk names m).Opens r → IsClearable m)
    → ((names : NameTable) (m : Model) (line : ℕ) (x : Spoken) → (talk names m).Refuses line x → OpensShort m line x)
    → ((d : Description) (last : ℕ) (lines : List Line) (x : Account) → TalkRun (talk (names_of d) d.model) last lines (spoken x) → Keeps d last lines x)
    → (r : Reading) (x : Account) → Talks talk r x → KeepsTalk Keeps r x
keeps-talk talk Keeps clears short keeps (Described d last rest) x (inl run) =
    inl (clears (names_of d) d.model run.goes.opening run.goes.opens, keeps d last rest x run)
keeps-talk talk Keeps clears short keeps (Described d last rest) x (inr refused) =
    let barred = short (names_of d) d.model last (spoken x) refused in inr (barred.short.barred_by.not_clearable, barred)
keeps-talk talk Keeps clears short keeps (Refused code line) x h = h

session-kept : (input : List ℕ) (x : Account) → (runs_of (Some Session)).Answers input x → KeepsTalk KeepsAll (model_of (lines_of input)) x × ReadsOn session input x
unfolding runs_of
session-kept input x h = (
  keeps-talk session KeepsAll (λ names m r opens. opening-clears m r.after.standing opens.begins) (λ names m line y refused. refused) runs-keep
      (model_of (lines_of input)) x h.0,
  h.1,
)

pub sessions_keep_promise : SessionsKeepPromise
sessions_keep_promise = each-run Session _ session-kept

-- ---- a plan that is carried out

carries-out : (s : Replanned) (p : ℕ) (r : Reply Replanned) → CarriesOut s p r → IsCarriedOut s r
carries-out s p r h =
    let x = r.after.session.standing in record {
      moment = p;
      last = h.last;
      block = h.block;
      text = h.text;
      answer = best-block r.after.session h.block h.begins.solved h.answer;
      of_rest = h.begins.begun;
      best = h.best;
      thrifty = subst (λ (n : Model). IsThriftyOpening n x.plan x.last x.work) (sym h.begins.begun) h.begins.thrifty;
      counted = h.counted;
    }

stays-there : (s : Replanned) (text : List ℕ) (r : Reply Replanned) → r ≡ says s text → KeepsCarried s r
stays-there s text r h = inr (inr (ap (λ (a : Reply Replanned). a.after) h))

advanced-to : (line : ℕ) (s : Replanned) (p : ℕ) (barred : Bool) (r : Reply Replanned) → AdvancesTo line s p barred r → KeepsCarried s r
advanced-to line s p true r h = stays-there s _ r h
advanced-to line s p false r h = inl (carries-out s p r h)

asked-session : (names : NameTable) (line : ℕ) (s : Replanned) (c : Command) (late : Bool) (r : Reply Replanned) → AsksSession names line s c late r → KeepsCarried s r
asked-session names line s c true r h = stays-there s _ r h
asked-session names line s c false r h = inr (inl (h.0, one_line names line s.session (Ok c) h.0 h.1, h.2))

row-of : (names : NameTable) (line : ℕ) (s : Replanned) (q : Result Request TextFault) (r : Reply Replanned) → RowOf names line s q r → KeepsCarried s r
row-of names line s (Err fault) r h = stays-there s _ r h
row-of names line s (Ok (requests.Advance p)) r h = advanced-to line s p (bars_moment s p) r h
row-of names line s (Ok (requests.Session c)) r h = asked-session names line s c (nat_lt 0 s.moment && asks_of_people names c) r h

replans-keep : (d : Description) (last : ℕ) (lines : List Line) (x : Account) → TalkRun (replan (names_of d) d.model) last lines (spoken x) → KeepsReplan d last lines x
replans-keep d last lines x run =
    let goes = run.goes in
    let opened = goes.opens in
    let s = opened.0 in
    record {
      answered = run.answered;
      rest = run.rest;
      parts = run.parts;
      opening = goes.opening;
      more = goes.more;
      opens = opened;
      first = subst (λ (a : Reply Replanned). IsBestBlock a.after.session a.text) (sym opened.2) (best-block s.after s.text opened.1.begins.solved opened.1.answer);
      replies = replies_keep (replan (names_of d) d.model).Gets _ (λ line s text r h. (h, row-of (names_of d) line s (request_of text) r h)) last goes.opening.after run.answered
          goes.more goes.replies;
      ends = subst (λ (r : Reply Replanned). EndsAt (replan (names_of d) d.model) (last + length run.answered) run.rest r (spoken x)) goes.all run.ends;
    }

replan-kept : (input : List ℕ) (x : Account) → (runs_of (Some Replan)).Answers input x → KeepsTalk KeepsReplan (model_of (lines_of input)) x × ReadsOn replan input x
unfolding runs_of
replan-kept input x h = (
  keeps-talk replan KeepsReplan (λ names m r opens. opening-clears m opens.0.after.standing opens.1.begins) (λ names m line y refused. refused) replans-keep
      (model_of (lines_of input)) x h.0,
  h.1,
)

pub replans_keep_promise : ReplansKeepPromise
replans_keep_promise = each-run Replan _ replan-kept

-- ---- a plan that is written

keeps-block : (flags : Flags) (names : NameTable) (m : Model) (x : Account) → IsPlanned flags names m x → KeepsBlock flags names m x
keeps-block flags names m x h =
    let s : State = record { index = 0; standing = h.opening } in
    record {
      opening = h.opening;
      begins = h.begins;
      done = h.done;
      first = best-block s (block_text 0 h.opening) h.begins.solved (answer_of reads_back s (omega arith) h.begins.solved);
      says = h.says;
      counted = h.counted;
    }

keeps-plan : (flags : Flags) (input : List ℕ) (result : Result Asked (Code × ℕ)) (x : Account) → Solves flags input result x → KeepsPlan flags input result x
keeps-plan flags input (Ok asked) x (all, inl h) =
    let m = asked.building.model in
    (all, inl (opening-clears m h.opening h.begins, keeps-block flags (names_of asked.building) m x h))
keeps-plan flags input (Ok asked) x (all, inr short) = (all, inr (short.barred_by.not_clearable, short))
keeps-plan flags input (Err fault) x h = h

plan-kept : (flags : Flags) (input : List ℕ) (x : Account) → (runs_of (Some (Solve flags))).Answers input x → KeepsPlan flags input (input_of (lines_of input)) x
unfolding runs_of
plan-kept flags input x h = keeps-plan flags input (input_of (lines_of input)) x h

pub plans_keep_promise : PlansKeepPromise
plans_keep_promise flags = each-run (Solve flags) _ (plan-kept flags)
