-- No line gets more than one block, and a line that is replied to is answered.
use Rattle.std.proofs.Common.{◌≡◌, ℕ, ◌+◌, ◌≤◌, List, [], ◌∷◌, Result, Ok, Err, ap, subst, ◌∙◌, arith, inl, inr}
use Rattle.evac_law.specs.declared.edit.Edit.{Edit}
use Rattle.evac_law.specs.declared.edit.EditFault.{EditFault}
use Rattle.evac_law.specs.declared.model.Model.{Model}
use Rattle.evac_law.specs.Edits.{applied}
use Rattle.line_io.specs.declared.outside.Sink.{Ghosts}
use Rattle.model_text.specs.declared.command.Command.{Command}
use Rattle.model_text.specs.declared.command.Command.TheVariants as commands
use Rattle.model_text.specs.declared.command.Report.{Report}
use Rattle.model_text.specs.declared.command.Report.TheVariants.{Routes, Clearing, Bottlenecks, Summary}
use Rattle.model_text.specs.declared.fault.TextFault.{TextFault}
use Rattle.model_text.specs.Commands.{command_of}
use Rattle.building_table.specs.declared.faults.NameFault.{NameFault}
use Rattle.building_table.specs.EditNames.{edit_named}
use Rattle.building_table.specs.Names.{NameTable}
use Rattle.talk.specs.SessionDesks.{SessionReaches}
use Rattle.talk.specs.Sessions.{AsksEdit, Edits, Replies, Reports, State, Undoes, session}
use Rattle.talk.proofs.Same.{cut_stays}
use Rattle.talk.specs.Speaking.{PutsReply, PutsSome, Speaking}
use Rattle.talk.specs.Talks.{Reply, says}

-- ---- no line gets more than one block

no-more : (s : State) (r : Reply State) → r.after ≡ s → r.after.index ≤ s.index + 1
no-more s r same = let e : r.after.index ≡ s.index = ap (λ (x : State). x.index) same in omega (arith, e)

says-no-more : (s : State) (text : List ℕ) (r : Reply State) → r ≡ says s text → r.after.index ≤ s.index + 1
says-no-more s text r is = no-more s r (ap (λ (x : Reply State). x.after) is)

edit-index : (line : ℕ) (s : State) (made : Result (Model × Edit) EditFault) (r : Reply State) → Edits line s made r → r.after.index ≤ s.index + 1
edit-index line s (Err fault) r h = says-no-more s _ r h
edit-index line s (Ok m) r (inl h) = omega (arith, h.next)
edit-index line s (Ok m) r (inr h) = no-more s r h.same

named-index : (line : ℕ) (s : State) (named : Result Edit NameFault) (r : Reply State) → AsksEdit line s named r → r.after.index ≤ s.index + 1
named-index line s (Err fault) r h = says-no-more s _ r h
named-index line s (Ok e) r h = edit-index line s (applied s.standing.model e) r h

undo-index : (line : ℕ) (s : State) (former : List Model) (r : Reply State) → Undoes line s former r → r.after.index ≤ s.index + 1
undo-index line s [] r h = says-no-more s _ r h
undo-index line s (m ∷ earlier) r h = omega (arith, h.next)

report-index : (names : NameTable) (s : State) (report : Report) (r : Reply State) → Reports names s report r → r.after.index ≤ s.index + 1
report-index names s Routes r h = says-no-more s h.0 r h.2
report-index names s Clearing r h = says-no-more s _ r h
report-index names s Bottlenecks r h = says-no-more s _ r h
report-index names s Summary r h = says-no-more s h.0 r h.2

pub reply-index : (names : NameTable) (line : ℕ) (s : State) (c : Result Command TextFault) (r : Reply State) → Replies names line s c r → r.after.index ≤ s.index + 1
reply-index names line s (Err fault) r h = says-no-more s _ r h
reply-index names line s (Ok commands.Blank) r h = says-no-more s _ r h
reply-index names line s (Ok (commands.Edit edit)) r h = named-index line s (edit_named names edit) r h
reply-index names line s (Ok commands.Undo) r h = undo-index line s s.standing.former r h
reply-index names line s (Ok (commands.Cut k)) r h = no-more s r (ap (λ (x : Reply State). x.after) h ∙ cut_stays line s k)
reply-index names line s (Ok (commands.Report report)) r h = report-index names s report r h
reply-index names line s (Ok commands.Work) r h = says-no-more s _ r h
reply-index names line s (Ok commands.Quit) r h = absurd h

-- ---- a line that is replied to is answered

pub answers : {X : Type 0} {G : Ghosts X} (x y : Speaking NameTable State X) (names : NameTable) (m : Model) (before line : ℕ) (text : List ℕ) (c : Result Command TextFault)
    → c ≡ command_of text → line ≡ before + 1 → SessionReaches names m before x.kept x.state → PutsSome G (Replies x.kept line x.state c) x y
    → (r : Reply State) × (session names m).Gets line x.state text r × PutsReply G x r y × SessionReaches names m line y.kept y.state
answers x y names m before line text c is at reaches h =
    let P : Result Command TextFault → Type 0 = λ z. Replies x.kept line x.state z h.0 in
    let Q : NameTable → Type 0 = λ z. Replies z line x.state (command_of text) h.0 in
    let e = ap (λ (s : State). s.index) h.2.state in
    (h.0, subst Q reaches.0 (subst P is h.1), h.2, (h.2.kept ∙ reaches.0, omega (arith, reply-index x.kept line x.state c h.0 h.1, e, reaches.1, at)))
