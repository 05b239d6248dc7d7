-- Two runs on one building come to the same.
use Rattle.std.proofs.Common.{◌≡◌, ℕ, ◌+◌, ◌≤◌, Bool, true, false, List, [], ◌∷◌, ◌++◌, length, codes, Result, Ok, refl, sym, ap, ap₂, subst, ◌∙◌, arith, append-nil, append_assoc, inl, inr, ◌⊎◌}
use Rattle.std.specs.List.{All, flat_map}
use Rattle.std.proofs.lemmas.List.Elements.{All-head, All-tail}
use Rattle.evac_law.specs.declared.code.Code.{Code}
use Rattle.evac_law.specs.declared.model.Model.{Model}
use Rattle.evac_law.specs.declared.plan.Move.{Move}
use Rattle.evac_law.specs.Building.{IsValid, people}
use Rattle.evac_law.specs.Certificates.{IsCertified}
use Rattle.evac_law.specs.LabelTable.{LabelTable}
use Rattle.evac_law.specs.Plans.{out_by, person_periods}
use Rattle.evac_law.specs.Sums.{moments_to}
use Rattle.evac_law.proofs.Optimal.{certified_is_feasible, certified_is_quickest, certified_plans_agree, out_stays}
use Rattle.line_io.specs.Line.{Line, lines_of, text_lines}
use Rattle.model_text.specs.declared.command.Command.{Command}
use Rattle.model_text.specs.declared.command.Command.TheVariants as commands
use Rattle.model_text.specs.declared.fault.TextFault.{TextFault}
use Rattle.model_text.specs.Commands.{command_of}
use Rattle.model_text.specs.Readings.{Reading, model_of}
use Rattle.building_table.specs.Names.{NameTable, names_of}
use Rattle.certificate_text.specs.BlockText.{answer_line, answer_text, cleared_line, end_line, label_lines, move_lines, out_line, out_lines, people_line}
use Rattle.clearing_report.specs.Walks.{IsStartNode, IsWalkTime, Walk, walk_time}
use Rattle.drill_building.specs.Drill.{drill_model}
use Rattle.drill_building.specs.Summary.{drill_text, figures_of}
use Rattle.drill_building.specs.declared.summary.Figures.{Figures}
use Rattle.edit_session.specs.Sessions.{Begins, SessionState}
use Rattle.model_writer.specs.ModelText.{model_text, said_of}
use Rattle.report_text.specs.ReportText.{number_line, outcome_lines, summary_text, title_line}
use Rattle.session_text.specs.StateTexts.{SaysReports, SaysSummary, block_text, bottlenecks_of, clearing_of}
use Rattle.talk.specs.Sessions.{Opens, Replies, State, session}
use Rattle.talk.specs.Talks.{EndsAt, RepliesTo, Reply, Spoken, TalkAnswers, TalkRun, followed, over_with, says}
use Rattle.evac_top.specs.Accounts.{Account}
use Rattle.evac_top.specs.Answers.{runs_of}
use Rattle.evac_top.specs.Drill.{IsDrilled}
use Rattle.evac_top.specs.Inputs.{Asked, input_of}
use Rattle.evac_top.specs.Solve.{IsPlannedOrShort, SaysPlan, Solves, Where}
use Rattle.evac_top.specs.Talking.{Talks, spoken}
use Rattle.evac_top.specs.TwoRuns.{Answered, AreTextsAlike, DrillsAgree, EndAlike, SessionSolvesAlike, SolvesAgree, UpgradedSolvesAlike, UpgradedTwice, head_text}
use Rattle.evac_top.specs.Upgrade.{Upgrades}
use Rattle.evac_top.specs.Words.{asking}
use Rattle.evac_top.specs.declared.words.Flags.{Flags}
use Rattle.evac_top.specs.declared.words.Mode.TheVariants.{Session, Solve, Upgrade}
use Rattle.evac_top.proofs.PromiseLemmas.{upgraded-reads-alike}
use Rattle.evac_top.proofs.QuietLemmas.{IsQuiet, quiet-tail}
use Rattle.evac_top.proofs.SolveLemmas.{opening-clears}
use Rattle.evac_top.proofs.UpgradeLemmas.{building-of}

-- ---- two best plans of one building

-- they have everybody out at the same moment, as many by every other, and as many person-periods
record Agrees (m : Model) (s t : SessionState) : Type 0 where
  last : s.last ≡ t.last
  outs : (k : ℕ) → out_by m s.plan k ≡ out_by m t.plan k
  periods : person_periods m s.plan ≡ person_periods m t.plan

fewer-periods : (m : Model) (p q : List Move) (l i : LabelTable) (c d : ℕ) → IsValid m → IsCertified m p l c → IsCertified m q i d
    → person_periods m p ≤ person_periods m q
fewer-periods m p q l i c d valid good other =
    (certified_is_quickest m p q l c valid good (certified_is_feasible m q i d m.horizon valid other)
    (out_stays m q d m.horizon other.in_horizon other.arrives ∙ other.all_out)).1

agrees : (m : Model) (s t : SessionState) → Begins m s → Begins m t → Agrees m s t
agrees m s t h g =
    let valid = subst IsValid h.begun h.solved.valid in
    let one = subst (λ (n : Model). IsCertified n s.plan s.labels s.last) h.begun h.solved.certified in
    let two = subst (λ (n : Model). IsCertified n t.plan t.labels t.last) g.begun g.solved.certified in
    let same = certified_plans_agree m s.plan t.plan s.labels t.labels s.last t.last valid one two in
    let less = fewer-periods m s.plan t.plan s.labels t.labels s.last t.last valid one two in
    let more = fewer-periods m t.plan s.plan t.labels s.labels t.last s.last valid two one in
    record { last = same.0; outs = same.1; periods = omega (arith, less, more) }

-- what those need who meet nobody is one time
walks-agree : (m : Model) (u v : ℕ) → IsWalkTime m u → IsWalkTime m v → u ≤ v
walks-agree m u v h g = by h.least
  where
    by : (u ≡ 0) ⊎ ((n : ℕ) × IsStartNode m n × ((arcs : List ℕ) → Walk m n arcs → u ≤ walk_time m arcs)) → u ≤ v
    by (inl e) = omega (arith, e)
    by (inr (n, starts, least)) =
        let way = g.enough n starts in
        let x = least way.0 way.1 in
        omega (arith, x, way.2)

walk-same : (m : Model) (u v : ℕ) → IsWalkTime m u → IsWalkTime m v → u ≡ v
walk-same m u v h g = let a = walks-agree m u v h g in let b = walks-agree m v u g h in omega (arith, a, b)

-- ---- what is written of them

-- the same curve is the same lines
outs-same : (xs : List ℕ) (f g : ℕ → ℕ) → ((k : ℕ) → f k ≡ g k) → flat_map (λ k. out_line k (f k)) xs ≡ flat_map (λ k. out_line k (g k)) xs
outs-same [] f g e = refl
outs-same (x ∷ xs) f g e = ap₂ (λ n rest. out_line x n ++ rest) (e x) (outs-same xs f g e)

head-same : (m : Model) (s t : SessionState) → Begins m s → Begins m t → head_text 0 s ≡ head_text 0 t
head-same m s t h g =
    let a = agrees m s t h g in
    let of : (n : Model) (p : List Move) (c : ℕ) → List ℕ = λ n p c. answer_line 0 ++ people_line (people n) ++ cleared_line c ++ out_lines n p c in
    ap (λ n. of n s.plan s.last) h.begun ∙ ap (λ c. of m s.plan c) a.last
    ∙ ap (λ ls. answer_line 0 ++ people_line (people m) ++ cleared_line t.last ++ ls) (outs-same (moments_to t.last) (out_by m s.plan) (out_by m t.plan) a.outs)
    ∙ ap (λ n. of n t.plan t.last) (sym g.begun)

-- a block is those lines, and then its labels and moves
rest_text : SessionState → List ℕ
rest_text s = label_lines s.model s.labels s.last ++ move_lines s.model s.plan ++ end_line

block-parts : (s : SessionState) → block_text 0 s ≡ head_text 0 s ++ rest_text s
unfolding answer_text rest_text
block-parts s = simp append_assoc

figures-same : (m : Model) (s t : SessionState) (u v : ℕ) → Begins m s → Begins m t → IsWalkTime m u → IsWalkTime m v
    → figures_of m s.plan s.last u ≡ figures_of m t.plan t.last v
figures-same m s t u v h g a b =
    let same = agrees m s t h g in
    ap (λ c. record { cleared = c; uncongested = u; person_periods = person_periods m s.plan }) same.last
    ∙ ap₂ (λ w z. record { cleared = t.last; uncongested = w; person_periods = z }) (walk-same m u v a b) same.periods

summaries-same : (names : NameTable) (m : Model) (s t : SessionState) (x y : List ℕ) → Begins m s → Begins m t → SaysSummary names 0 s x → SaysSummary names 0 t y → x ≡ y
unfolding summary_text
summaries-same names m s t x y h g (u, hu, hx) (v, gv, gy) =
    let fig = figures-same m s t u v h g (subst (λ (n : Model). IsWalkTime n u) h.begun hu) (subst (λ (n : Model). IsWalkTime n v) g.begun gv) in
    let text : Figures → List ℕ = λ z. number_line (codes "summary") 0 ++ title_line names.title ++ outcome_lines m z.cleared
    ++ number_line (codes "uncongested") z.uncongested ++ number_line (codes "personperiods") z.person_periods ++ end_line in
    hx ∙ ap (λ n. summary_text 0 names.title n s.plan s.last u) h.begun ∙ ap text fig ∙ ap (λ n. summary_text 0 names.title n t.plan t.last v) (sym g.begun) ∙ sym gy

-- the reports end with the summary
record EndsWithSummary (flags : Flags) (names : NameTable) (s : SessionState) (text : List ℕ) : Type 0 where
  before : List ℕ
  summary : List ℕ
  says : Where flags.reports (SaysSummary names 0 s) summary
  parts : text ≡ head_text 0 s ++ (before ++ summary)

by-reports : (asked : Bool) (flags : Flags) (names : NameTable) (s : SessionState) (text front reports : List ℕ) → flags.reports ≡ asked
    → Where asked (SaysReports names 0 s) reports → text ≡ head_text 0 s ++ (front ++ reports) → EndsWithSummary flags names s text
by-reports true flags names s text front reports e (summary, says, is) parts = record {
  before = front ++ clearing_of names 0 s ++ bottlenecks_of 0 s;
  summary = summary;
  says = subst (λ b. Where b (SaysSummary names 0 s) summary) (sym e) says;
  parts = parts ∙ ap (λ t. head_text 0 s ++ (front ++ t)) is ∙ ap (λ t. head_text 0 s ++ t) (simp append_assoc);
}
by-reports false flags names s text front reports e none parts = record {
  before = front ++ reports;
  summary = [];
  says = subst (λ b. Where b (SaysSummary names 0 s) []) (sym e) refl;
  parts = parts ∙ ap (λ t. head_text 0 s ++ t) (sym (append-nil (front ++ reports)));
}

ends-so : (flags : Flags) (names : NameTable) (s : SessionState) (text : List ℕ) → SaysPlan flags names s text → EndsWithSummary flags names s text
ends-so flags names s text h =
    by-reports flags.reports flags names s text (rest_text s ++ h.asked) h.reports refl h.says_reports
    (h.parts ∙ ap (λ b. b ++ h.asked ++ h.reports) (block-parts s) ∙ simp append_assoc)

where-same : (asked : Bool) (names : NameTable) (m : Model) (s t : SessionState) (x y : List ℕ) → Begins m s → Begins m t
    → Where asked (SaysSummary names 0 s) x → Where asked (SaysSummary names 0 t) y → x ≡ y
where-same true names m s t x y h g a b = summaries-same names m s t x y h g a b
where-same false names m s t x y h g a b = a ∙ sym b

alike : (flags : Flags) (names : NameTable) (m : Model) (s t : SessionState) (x y : List ℕ) → Begins m s → Begins m t → EndsWithSummary flags names s x
    → EndsWithSummary flags names t y → AreTextsAlike flags names m x y
alike flags names m s t x y h g a b = record {
  opening = s;
  begins = h;
  summary = a.summary;
  says_summary = a.says;
  of_x = a.before;
  of_y = b.before;
  parts_x = a.parts;
  parts_y =
      b.parts ∙ ap (λ u. u ++ (b.before ++ b.summary)) (sym (head-same m s t h g))
      ∙ ap (λ u. head_text 0 s ++ (b.before ++ u)) (sym (where-same flags.reports names m s t a.summary b.summary h g a.says b.says));
}

-- ---- two runs that plan a building

end-alike : (flags : Flags) (names : NameTable) (m : Model) (i j : ℕ) (x y : Account) → IsPlannedOrShort flags names m i x → IsPlannedOrShort flags names m j y
    → EndAlike flags names m x y
end-alike flags names m i j x y (inl h) (inl g) = (
  h.done ∙ sym g.done,
  λ e. alike flags names m h.opening g.opening x.written y.written h.begins g.begins (ends-so flags names h.opening x.written h.says)
      (ends-so flags names g.opening y.written g.says),
)
end-alike flags names m i j x y (inl h) (inr g) = absurd (g.barred_by.not_clearable (opening-clears m h.opening h.begins))
end-alike flags names m i j x y (inr h) (inl g) = absurd (h.barred_by.not_clearable (opening-clears m g.opening g.begins))
end-alike flags names m i j x y (inr h) (inr g) = (h.refused ∙ sym g.refused, λ e. absurd (omega (arith, e, h.refused)))

-- a run of `solve` on a building that was read plans it
pub solve-answered : (flags : Flags) (input : List ℕ) (x : Account) → Answered (Solve flags) input x → Solves flags input (input_of (lines_of input)) x
unfolding runs_of
solve-answered flags input x h = h

solved : (flags : Flags) (input : List ℕ) (asked : Asked) (x : Account) → input_of (lines_of input) ≡ Ok asked → Answered (Solve flags) input x
    → IsPlannedOrShort flags (names_of asked.building) asked.building.model asked.last x
solved flags input asked x e h = (subst (λ (r : Result Asked (Code × ℕ)). Solves flags input r x) e (solve-answered flags input x h)).1

pub solves_agree : SolvesAgree
solves_agree flags input asked x y e h g =
    end-alike flags (names_of asked.building) asked.building.model asked.last asked.last x y (solved flags input asked x e h) (solved flags input asked y e g)

-- ---- what was upgraded

upgraded : (input : List ℕ) (asked : Asked) (x : Account) → input_of (lines_of input) ≡ Ok asked → Answered Upgrade input x
    → (x.status ≡ 0) × (x.written ≡ model_text asked.building)
unfolding runs_of
upgraded input asked x e h =
    let up = subst (λ (r : Result Asked (Code × ℕ)). Upgrades input r x) e h in (up.1.over, up.1.text_whole)

reads-again : (input : List ℕ) (asked : Asked) (w : Account) → input_of (lines_of input) ≡ Ok asked → Answered Upgrade input w
    → input_of (lines_of w.written) ≡ Ok (record { building = asked.building; last = length (said_of asked.building) })
reads-again input asked w e h = ap (λ text. input_of (lines_of text)) (upgraded input asked w e h).1 ∙ upgraded-reads-alike input asked e

pub upgraded_twice : UpgradedTwice
upgraded_twice input asked x y e h g =
    let again : Asked = record { building = asked.building; last = length (said_of asked.building) } in
    let two = upgraded x.written again y (reads-again input asked x e h) g in
    (two.0, two.1 ∙ sym (upgraded input asked x e h).1)

pub upgraded_solves_alike : UpgradedSolvesAlike
upgraded_solves_alike flags input asked w x y e u h g =
    let again : Asked = record { building = asked.building; last = length (said_of asked.building) } in
    end-alike flags (names_of asked.building) asked.building.model asked.last again.last x y (solved flags input asked x e h)
    (solved flags w.written again y (reads-again input asked w e u) g)

-- ---- a session with no line that says anything

-- what such lines get
quiet-replies : (names : NameTable) (m : Model) (before : ℕ) (s : State) (quiet : List (List ℕ)) (r : Reply State) → All IsQuiet quiet
    → RepliesTo (session names m).Gets before s quiet r → r ≡ says s []
unfolding RepliesTo
quiet-replies names m before s [] r all h = h
quiet-replies names m before s (text ∷ quiet) r all (first, gets, (more, replies, is)) =
    let P : Result Command TextFault → Type 0 = λ c. Replies names (before + 1) s c first in
    let blank : first ≡ says s [] = subst P (All-head IsQuiet text quiet all).0 gets in
    let none = quiet-replies names m (before + 1) first.after quiet more (All-tail IsQuiet text quiet all) replies in
    is ∙ ap (λ (q : Reply State). followed first q) none ∙ ap (λ (q : Reply State). followed q (says q.after [])) blank

-- none of them quits
stays : (text : List ℕ) → IsQuiet text → command_of text ≡ Ok commands.Quit → ⊥
stays text quiet quits = let blank = quiet.0 in cc

-- a talk over such lines answers all of them
record AreAllAnswered (quiet answered : List (List ℕ)) (rest : List Line) : Type 0 where
  all : answered ≡ quiet
  none : rest ≡ []

answers-all : (names : NameTable) (m : Model) (count : ℕ) (quiet answered : List (List ℕ)) (rest : List Line) (r : Reply State) (x : Spoken) → All IsQuiet quiet
    → text_lines quiet ≡ text_lines answered ++ rest → EndsAt (session names m) count rest r x → AreAllAnswered quiet answered rest
answers-all names m count [] [] rest r x all parts ends = record { all = refl; none = sym parts }
answers-all names m count [] (text ∷ answered) rest r x all parts ends = absurd (cc)
answers-all names m count (text ∷ quiet) [] rest r x all parts ends =
    let quits = subst (λ (ls : List Line). EndsAt (session names m) count ls r x) (sym parts) ends in
    absurd (stays text (All-head IsQuiet text quiet all) quits.0)
answers-all names m count (text ∷ quiet) (other ∷ answered) rest r x all parts ends =
    let same : other ≡ text = cc in
    let more : text_lines quiet ≡ text_lines answered ++ rest = cc in
    let h = answers-all names m count quiet answered rest r x (All-tail IsQuiet text quiet all) more ends in
    record { all = ap₂ (λ (t : List ℕ) (ts : List (List ℕ)). t ∷ ts) same h.all; none = h.none }

-- it opens, and that is all
abbrev OpensAlone : Model → Account → Type 0
OpensAlone m y = (o : Reply State) × Opens m o × (y.status ≡ 0) × (y.written ≡ o.text)

opens-alone : (names : NameTable) (m : Model) (last : ℕ) (quiet : List (List ℕ)) (y : Account) → All IsQuiet quiet
    → TalkRun (session names m) last (text_lines quiet) (spoken y) → OpensAlone m y
opens-alone names m last quiet y all run =
    let goes = run.goes in
    let answers = answers-all names m (last + length run.answered) quiet run.answered run.rest run.replies (spoken y) all run.parts run.ends in
    let T : List Line → Type 0 = λ ls. EndsAt (session names m) (last + length run.answered) ls run.replies (spoken y) in
    let over : spoken y ≡ over_with 0 run.replies = subst T answers.none run.ends in
    let quiet_all = subst (λ (ts : List (List ℕ)). All IsQuiet ts) (sym answers.all) all in
    let none = quiet-replies names m last goes.opening.after run.answered goes.more quiet_all goes.replies in (
      goes.opening,
      goes.opens,
      ap (λ (z : Spoken). z.status) over,
      ap (λ (z : Spoken). z.text) over ∙ ap (λ (q : Reply State). q.text) goes.all ∙ ap (λ (q : Reply State). goes.opening.text ++ q.text) none
          ∙ append-nil goes.opening.text,
    )

ends-alone : (names : NameTable) (s : SessionState) (i : ℕ) (text : List ℕ) → i ≡ 0 → text ≡ block_text i s → EndsWithSummary (asking false false) names s text
ends-alone names s i text first is = record {
  before = rest_text s;
  summary = [];
  says = refl;
  parts = is ∙ ap (λ j. block_text j s) first ∙ block-parts s ∙ ap (λ t. head_text 0 s ++ t) (sym (append-nil (rest_text s)));
}

session-alike : (names : NameTable) (m : Model) (last : ℕ) (quiet : List (List ℕ)) (x y : Account) → All IsQuiet quiet
    → IsPlannedOrShort (asking false false) names m last x → TalkAnswers (session names m) last (text_lines quiet) (spoken y)
    → EndAlike (asking false false) names m x y
session-alike names m last quiet x y all (inl h) (inl run) =
    let alone = opens-alone names m last quiet y all run in
    let o = alone.0 in
    let opens = alone.1 in
    let s = o.after.standing in (
      h.done ∙ sym alone.2,
      λ e. alike (asking false false) names m h.opening s x.written y.written h.begins opens.begins (ends-so (asking false false) names h.opening x.written h.says)
          (ends-alone names s o.after.index y.written opens.first (alone.3 ∙ opens.answer.block)),
    )
session-alike names m last quiet x y all (inl h) (inr short) = absurd (short.short.barred_by.not_clearable (opening-clears m h.opening h.begins))
session-alike names m last quiet x y all (inr h) (inl run) = absurd (h.barred_by.not_clearable (opening-clears m run.goes.opening.after.standing run.goes.opens.begins))
session-alike names m last quiet x y all (inr h) (inr short) = (h.refused ∙ sym short.refused, λ e. absurd (omega (arith, e, h.refused)))

session-answered : (input : List ℕ) (y : Account) → Answered Session input y → Talks session (model_of (lines_of input)) y
unfolding runs_of
session-answered input y h = h.0

pub session_solves_alike : SessionSolvesAlike
session_solves_alike input asked x y e h g =
    let d = asked.building in
    let is = building-of (model_of (lines_of input)) asked e in
    let tail = quiet-tail asked.last is.0 is.2 in
    let T : List Line → Type 0 = λ ls. TalkAnswers (session (names_of d) d.model) asked.last ls (spoken y) in
    let talked : T is.0 = subst (λ (r : Reading). Talks session r y) is.1 (session-answered input y g) in
    session-alike (names_of d) d.model asked.last tail.texts x y tail.quiet (solved (asking false false) input asked x e h) (subst T tail.parts talked)

-- ---- drills

drill-same : (n : ℕ) (x y : Account) → IsDrilled n x → IsDrilled n y → (x.status ≡ y.status) × (x.written ≡ y.written)
drill-same n x y h g =
    let m = drill_model n in (
      h.ends.over ∙ sym g.ends.over,
      h.ends.text_whole ∙ ap (drill_text n m) (figures-same m h.opening g.opening h.time g.time h.begins g.begins h.uncongested g.uncongested) ∙ sym g.ends.text_whole,
    )

pub drills_agree : DrillsAgree
unfolding runs_of
drills_agree n i j x y h g = drill-same n x y h.1 g.1
