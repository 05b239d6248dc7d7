-- What is answered of a building, from where its session stands.
use Rattle.std.proofs.Common.{◌≡◌, ℕ, ◌-◌, ◌<◌, ◌≤◌, ◌⊎◌, inl, inr, List, Result, Ok, Err, arith, sym, subst}
use Rattle.std.proofs.lemmas.Bool.{cases_lt}
use Rattle.evac_law.specs.declared.edit.Edit.{Edit}
use Rattle.evac_law.specs.declared.edit.EditFault.{EditFault}
use Rattle.evac_law.specs.declared.model.Model.{Model}
use Rattle.evac_law.specs.declared.name.NodeName.{NodeName}
use Rattle.evac_law.specs.declared.plan.Move.{Move}
use Rattle.evac_law.specs.Building.{IsValid, people}
use Rattle.evac_law.specs.Certificates.{IsCertified}
use Rattle.evac_law.specs.LabelTable.{LabelTable}
use Rattle.evac_law.specs.Plans.{IsFeasible, out_by}
use Rattle.evac_law.proofs.Optimal.{certified_is_best, out_le_out}
use Rattle.line_io.specs.Line.{Line, lines_of}
use Rattle.model_text.specs.declared.named_edit.NamedEdit.TheVariants.{ShutExit}
use Rattle.model_text.specs.Readings.{Described, model_of}
use Rattle.model_text.specs.Taken.{Description}
use Rattle.building_table.specs.declared.building.Building.{Building}
use Rattle.building_table.specs.EditNames.{edit_named}
use Rattle.building_table.specs.Names.{NameTable, NamesFit, names_of}
use Rattle.edit_session.specs.declared.faults.BeginFault.{BeginFault}
use Rattle.edit_session.specs.declared.faults.BeginFault.TheVariants as begins
use Rattle.edit_session.specs.declared.faults.EditRefusal.{EditRefusal}
use Rattle.edit_session.specs.declared.faults.EditRefusal.TheVariants as refusals
use Rattle.edit_session.specs.declared.faults.Short.{Short}
use Rattle.edit_session.specs.declared.work.Work.{Work}
use Rattle.edit_session.specs.Sessions.{BeginEnds, EditEnds, IsSolved, SessionState, SessionView}
use Rattle.what_if.specs.declared.answer.Answer.{Answer}
use Rattle.what_if.specs.declared.answer.Answer.TheVariants.{Cleared, NotCleared}
use Rattle.what_if.specs.declared.answer.WhatIfFault.{WhatIfFault}
use Rattle.what_if.specs.declared.answer.WhatIfFault.TheVariants as faults
use Rattle.what_if.specs.WhatIf.{AnswersOn, AnswersWhatIf, ClearsAt, Describes, IsWithShut}

-- ---- a certified plan is over first

not-sooner : (m : Model) (p other : List Move) (l : LabelTable) (c k : ℕ) → IsValid m → IsCertified m p l c → IsFeasible m other k → out_by m other k ≡ people m
    → (k < c) ⊎ (c ≤ k) → c ≤ k
not-sooner m p other l c k valid good feasible all (inl early) =
    let before = c - 1 in
    let fewer = good.least before (omega (arith, early)) in
    let best = certified_is_best m p l c valid good other k feasible in
    let more = out_le_out m p k before (omega (arith, early)) in
    absurd (omega (arith, all, fewer, best, more))
not-sooner m p other l c k valid good feasible all (inr late) = late

clears : (s : SessionState) → IsSolved s → ClearsAt s.model s.last
clears s h = record {
  plan = s.plan;
  labels = s.labels;
  certified = h.certified;
  soonest = λ other k feasible all. not-sooner s.model s.plan other s.labels s.last k h.valid h.certified feasible all (cases_lt k s.last);
}

pub clears-at : (s : SessionState) (m : Model) (c : ℕ) → IsSolved s → s.model ≡ m → c ≡ s.last → ClearsAt m c
clears-at s m c h same last = subst (λ (x : Model). ClearsAt x c) same (subst (ClearsAt s.model) (sym last) (clears s h))

-- ---- what an edit comes to

pub made : (names : NameTable) (exit : NodeName) (v v' : SessionView) (e : Edit) (work : Work) (steps before after : ℕ) → IsSolved v.state
    → Ok e ≡ edit_named names (ShutExit exit) → EditEnds v e (Ok work) v' steps → before ≡ v.state.last → after ≡ v'.state.last
    → AnswersOn v.state.model names exit (Ok (Cleared before after))
made names exit v v' e work steps before after h named ends first last =
    let edit = ends.0 in
    let shut : IsWithShut v.state.model names exit edit.edited = record { edit = e; inverse = edit.inverse; named = sym named; accepted = edit.accepted } in
    (subst (ClearsAt v.state.model) (sym first) (clears v.state h), (edit.edited, shut, clears-at v'.state edit.edited after edit.goes_on.solved edit.goes_on.gone last))

pub barred : (names : NameTable) (exit : NodeName) (v v' : SessionView) (e : Edit) (refusal : EditRefusal) (steps before all most : ℕ) → IsSolved v.state
    → Ok e ≡ edit_named names (ShutExit exit) → refusal ≡ refusals.NotCleared all most → EditEnds v e (Err refusal) v' steps → before ≡ v.state.last
    → AnswersOn v.state.model names exit (Ok (NotCleared before all most))
barred names exit v v' e refusal steps before all most h named is ends first =
    let refused = subst (λ (x : EditRefusal). EditEnds v e (Err x) v' steps) is ends in
    let edit = refused.0 in
    let shut : IsWithShut v.state.model names exit edit.edited = record { edit = e; inverse = edit.inverse; named = sym named; accepted = edit.accepted } in
    (subst (ClearsAt v.state.model) (sym first) (clears v.state h), (edit.edited, v'.refused, shut, edit.not_cleared))

pub faulted : (names : NameTable) (exit : NodeName) (v v' : SessionView) (e : Edit) (refusal : EditRefusal) (fault : EditFault) (steps : ℕ)
    → Ok e ≡ edit_named names (ShutExit exit) → refusal ≡ refusals.Fault fault → EditEnds v e (Err refusal) v' steps
    → AnswersOn v.state.model names exit (Err (faults.Edit fault))
faulted names exit v v' e refusal fault steps named is ends =
    let refused = subst (λ (x : EditRefusal). EditEnds v e (Err x) v' steps) is ends in
    (e, sym named, refused.0)

-- ---- what a session begins with

pub begun-fit : (names : NameTable) (m : Model) (v : SessionView) (steps : ℕ) → NamesFit names m → BeginEnds m (Ok v) steps → NamesFit names v.state.model
begun-fit names m v steps fit ends = subst (NamesFit names) (sym ends.0.begun) fit

pub begun : (m : Model) (names : NameTable) (exit : NodeName) (v : SessionView) (steps : ℕ) (result : Result Answer WhatIfFault) → BeginEnds m (Ok v) steps
    → AnswersOn v.state.model names exit result → AnswersOn m names exit result
begun m names exit v steps result ends h = subst (λ (x : Model). AnswersOn x names exit result) ends.0.begun h

pub not-begun : (m : Model) (names : NameTable) (exit : NodeName) (fault : BeginFault) (s : Short) (steps : ℕ) → fault ≡ begins.NotCleared s
    → BeginEnds m (Err fault) steps → AnswersOn m names exit (Err (faults.NeverCleared s.most))
not-begun m names exit fault s steps is ends =
    let short = subst (λ (x : BeginFault). BeginEnds m (Err x) steps) is ends in
    (s.labels, short.2)

-- ---- what is answered of a text

by-text : (text : List ℕ) (exit : NodeName) (d : Description) (last : ℕ) (rest : List Line) (result : Result Answer WhatIfFault)
    → model_of (lines_of text) ≡ Described d last rest → AnswersOn d.model (names_of d) exit result → AnswersWhatIf text exit result
by-text text exit d last rest (Err (faults.Text code line)) described h = absurd h
by-text text exit d last rest (Err faults.Memory) described h = tt
by-text text exit d last rest _ described h = record { building = d; last = last; rest = rest; described = described; answer = h }

pub of-building : (text : List ℕ) (exit : NodeName) (b : Building) (result : Result Answer WhatIfFault) → Describes text (Ok b) → AnswersOn b.model b.names exit result
    → AnswersWhatIf text exit result
of-building text exit b result (d, last, rest, described, is) h =
    let at = subst (λ (x : Model). AnswersOn x b.names exit result) is.model h in
    by-text text exit d last rest result described (subst (λ (x : NameTable). AnswersOn d.model x exit result) is.names at)
