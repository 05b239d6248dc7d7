-- What is put after the pending bytes is what a line gets.
use Rattle.std.specs.Prelude.{Bool, true, false, nat_lt, if◌then◌else◌}
use Rattle.std.proofs.Common.{◌≡◌, ℕ, ◌+◌, ◌^◌, ◌<◌, ◌≤◌, List, Result, Ok, Err, refl, sym, ap, ◌∙◌, subst, arith}
use Rattle.std.proofs.Math.Nat.{add-zero}
use Rattle.evac_law.specs.declared.code.Code.{Code}
use Rattle.evac_law.specs.declared.code.Code.TheVariants.{NoPeriod, NothingToUndo}
use Rattle.evac_law.specs.declared.edit.Edit.{Edit}
use Rattle.evac_law.specs.declared.edit.EditFault.{EditFault}
use Rattle.evac_law.specs.declared.model.Model.{Model}
use Rattle.evac_law.specs.Building.{people}
use Rattle.evac_law.specs.Certificates.{label_cut}
use Rattle.evac_law.specs.Edits.{applied, fault_code}
use Rattle.line_io.specs.Line.{input_limit}
use Rattle.line_io.specs.Writer.{Writes}
use Rattle.line_io.specs.declared.outside.Sink.{Ghosts}
use Rattle.line_io.specs.declared.writer.Writer.{Writer}
use Rattle.model_text.specs.declared.command.Report.{Report}
use Rattle.building_table.specs.declared.faults.NameFault.{NameFault}
use Rattle.building_table.specs.Names.{NameTable}
use Rattle.certificate_text.specs.Block.{number_field_limit}
use Rattle.certificate_text.specs.BlockLaws.{BlockReadsBack}
use Rattle.certificate_text.specs.BlockText.{refusal_line, shortfall_text}
use Rattle.certificate_text.specs.Short.{HasSameNames}
use Rattle.edit_session.specs.declared.faults.EditRefusal.TheVariants.{Fault, NotCleared}
use Rattle.edit_session.specs.declared.faults.UndoRefusal.{UndoRefusal}
use Rattle.edit_session.specs.declared.faults.UndoRefusal.TheVariants.{NothingToUndo}
use Rattle.edit_session.specs.declared.work.Work.{Work}
use Rattle.edit_session.specs.Sessions.{EditEnds, SessionState, SessionView, UndoEnds}
use Rattle.session_text.specs.StateTexts.{block_text, cut_of}
use Rattle.session_text.proofs.Serving.{edit_serves}
use Rattle.talk.specs.SessionDesks.{DeskView, IsSameDesk, desk_state, shown_of}
use Rattle.talk.specs.Speaking.{PutsReply, PutsSome, Speaking}
use Rattle.talk.specs.Sessions.{AsksEdit, Edits, Reports, State, Undoes, cut_reply}
use Rattle.talk.specs.Talks.{Reply, refuses, says}
use Rattle.talk.proofs.Bridge.{block_reply, edit_advances, edit_faults, edit_stays, next_state, undo_advances, undo_refused}

-- ---- a text that was put is a reply

pub said : {X : Type 0} {G : Ghosts X} (d d' : DeskView) (v v' : SessionView) (r : Reply State) (a b : Writer X) (n k : ℕ) → d'.names ≡ d.names
    → desk_state d' v' ≡ r.after → Writes G a r.text b → k ≡ n + r.steps → PutsReply G (shown_of d v a n) r (shown_of d' v' b k)
said {X} {G} d d' v v' r a b n k names state put steps =
    record { kept = names; state = state; put = put; steps = steps }

-- the state is as it was
pub said_here : {X : Type 0} {G : Ghosts X} (d d' : DeskView) (v : SessionView) (text : List ℕ) (a b : Writer X) (n : ℕ) → IsSameDesk d d'
    → Writes G a text b → PutsReply G (shown_of d v a n) (says (desk_state d v) text) (shown_of d' v b n)
said_here {X} {G} d d' v text a b n same put =
    let state = ap (λ (i : ℕ). let z : State = record { index = i; standing = v.state } in z) same.index in
    said d d' v v (says (desk_state d v) text) a b n n same.names state put (sym (add-zero n))

pub same_desk : (d : DeskView) → IsSameDesk d d
same_desk d = record { names = refl; index = refl }

-- ---- edits

-- a line after a block leaves the next block a number that its field can hold
pub few_blocks : (index line : ℕ) → index < line → line ≤ input_limit → index + 1 ≤ number_field_limit
unfolding input_limit number_field_limit
few_blocks index line before short = omega (arith, before, short)

next-state : (s : State) (d' : DeskView) (v' : SessionView) → d'.index ≡ s.index + 1 → desk_state d' v' ≡ next_state s v'
next-state s d' v' next = ap (λ (i : ℕ). let z : State = record { index = i; standing = v'.state } in z) next

same-state : (d : DeskView) (v v' : SessionView) → v'.state ≡ v.state → desk_state d v' ≡ desk_state d v
same-state d v v' state = ap (λ (x : SessionState). let z : State = record { index = d.index; standing = x } in z) state

-- a block that was counted
pub counted_index : (d d' : DeskView) (line : ℕ) → (d.index + 1 < 2 ^ 32 → d'.index ≡ d.index + 1) → d.index < line → line ≤ input_limit → d'.index ≡ d.index + 1
unfolding input_limit
counted_index d d' line next before short = next (omega (arith, before, short))

counted_names : (d d' : DeskView) → d' ≡ record d { index = d'.index } → d'.names ≡ d.names
counted_names d d' same = ap (λ (x : DeskView). x.names) same

pub edit_made : BlockReadsBack → {X : Type 0} {G : Ghosts X} (line steps n : ℕ) (d d' : DeskView) (v v' : SessionView) (e : Edit) (w : Work) (a b : Writer X)
    → d.index < line → line ≤ input_limit → (d.index + 1 < 2 ^ 32 → d'.index ≡ d.index + 1) → d' ≡ record d { index = d'.index } → EditEnds v e (Ok w) v' steps
    → Writes G a (block_text d'.index v'.state) b
    → PutsSome G (Edits line (desk_state d v) (applied v.state.model e)) (shown_of d v a n) (shown_of d' v' b (n + steps))
edit_made back {X} {G} line steps n d d' v v' e w a b before short count same ends put =
    let s = desk_state d v in
    let r = block_reply (next_state s v') steps in
    let next = counted_index d d' line count before short in
    let text = subst (λ (i : ℕ). Writes G a (block_text i v'.state) b) next put in (
      r,
      edit_advances back line s v v' e w steps refl (few_blocks d.index line before short) ends,
      said d d' v v' r a b n (n + steps) (counted_names d d' same) (next-state s d' v' next) text refl,
    )

pub edit_barred : {X : Type 0} {G : Ghosts X} (line steps n : ℕ) (d : DeskView) (v v' : SessionView) (e : Edit) (all most : ℕ) (a b : Writer X)
    → EditEnds v e (Err (NotCleared all most)) v' steps
    → ((edited : Model) → HasSameNames v'.state.model edited → people edited ≡ all
    → Writes G a (shortfall_text line edited (label_cut edited v'.refused edited.horizon) most) b)
    → PutsSome G (Edits line (desk_state d v) (applied v.state.model e)) (shown_of d v a n) (shown_of d v' b (n + steps))
edit_barred {X} {G} line steps n d v v' e all most a b ends put =
    let s = desk_state d v in
    let barred = ends.0 in
    let text = shortfall_text line barred.edited (label_cut barred.edited v'.refused barred.edited.horizon) most in
    let r : Reply State = record { text = text; after = s; steps = steps } in
    let made = ap (λ (x : SessionState). applied x.model e) ends.1 ∙ barred.accepted in
    let names = (edit_serves v'.state.model barred.edited e barred.inverse made).names in (
      r,
      edit_stays line s v v' e all most steps refl ends,
      said d d v v' r a b n (n + steps) refl (same-state d v v' ends.1) (put barred.edited names (sym barred.not_cleared.count)) refl,
    )

pub edit_faulted : {X : Type 0} {G : Ghosts X} (line steps : ℕ) (code : Code) (n : ℕ) (d : DeskView) (v v' : SessionView) (e : Edit) (fault : EditFault) (a b : Writer X)
    → EditEnds v e (Err (Fault fault)) v' steps → code ≡ fault_code fault
    → Writes G a (refusal_line code line) b
    → PutsSome G (Edits line (desk_state d v) (applied v.state.model e)) (shown_of d v a n) (shown_of d v' b (n + steps))
edit_faulted {X} {G} line steps code n d v v' e fault a b ends is put =
    let s = desk_state d v in
    let text = subst (λ (i : Code). Writes G a (refusal_line i line) b) is put in (
      refuses s (fault_code fault) line,
      edit_faults line s v v' e fault steps refl ends,
      said d d v v' (refuses s (fault_code fault) line) a b n (n + steps) refl (same-state d v v' (ap (λ (x : SessionView). x.state) ends.1)) text
          (ap (λ (i : ℕ). n + i) ends.2),
    )

-- ---- an undo

pub undo_made : BlockReadsBack → {X : Type 0} {G : Ghosts X} (line steps n : ℕ) (d d' : DeskView) (v v' : SessionView) (w : Work) (a b : Writer X)
    → d.index < line → line ≤ input_limit → (d.index + 1 < 2 ^ 32 → d'.index ≡ d.index + 1) → d' ≡ record d { index = d'.index } → UndoEnds v (Ok w) v' steps
    → Writes G a (block_text d'.index v'.state) b
    → PutsSome G (Undoes line (desk_state d v) v.state.former) (shown_of d v a n) (shown_of d' v' b (n + steps))
undo_made back {X} {G} line steps n d d' v v' w a b before short count same ends put =
    let s = desk_state d v in
    let r = block_reply (next_state s v') steps in
    let next = counted_index d d' line count before short in
    let text = subst (λ (i : ℕ). Writes G a (block_text i v'.state) b) next put in (
      r,
      undo_advances back line s v v' w steps refl (few_blocks d.index line before short) ends,
      said d d' v v' r a b n (n + steps) (counted_names d d' same) (next-state s d' v' next) text refl,
    )

pub undo_none : {X : Type 0} {G : Ghosts X} (why : UndoRefusal) (line steps n : ℕ) (d : DeskView) (v v' : SessionView) (a b : Writer X)
    → UndoEnds v (Err why) v' steps
    → Writes G a (refusal_line NothingToUndo line) b
    → PutsSome G (Undoes line (desk_state d v) v.state.former) (shown_of d v a n) (shown_of d v' b (n + steps))
undo_none {X} {G} NothingToUndo line steps n d v v' a b ends put =
    let s = desk_state d v in (
      refuses s NothingToUndo line,
      undo_refused line s v v' steps refl ends,
      said d d v v' (refuses s NothingToUndo line) a b n (n + steps) refl (same-state d v v' (ap (λ (x : SessionView). x.state) ends.1)) put
          (ap (λ (i : ℕ). n + i) ends.2),
    )

-- ---- an edit by names

pub asks_named : {X : Type 0} {G : Ghosts X} (line : ℕ) (s : State) (made named : Result Edit NameFault) (x y : Speaking NameTable State X) → made ≡ named
    → PutsSome G (AsksEdit line s made) x y → PutsSome G (AsksEdit line s named) x y
asks_named {X} {G} line s made named x y is h = let P : Result Edit NameFault → Type 0 = λ z. PutsSome G (AsksEdit line s z) x y in subst P is h

-- ---- cuts

either_same : (b : Bool) (s : State) (x y : List ℕ) → let r = if b then says s x else says s y in says s r.text ≡ r
either_same true s x y = refl
either_same false s x y = refl

pub cut_is : (line : ℕ) (s : State) (k : ℕ) → says s (cut_reply line s k).text ≡ cut_reply line s k
cut_is line s k = either_same (nat_lt s.standing.model.horizon k) s (refusal_line NoPeriod line) (cut_of s.standing k)

-- ---- refusals by a code

pub code_said : {X : Type 0} {G : Ghosts X} (Gets : Reply State → Type 0) (line : ℕ) (code : Code) (n : ℕ) (d : DeskView) (v : SessionView) (named : Code) (a b : Writer X) → code ≡ named
    → Gets (refuses (desk_state d v) named line) → Writes G a (refusal_line code line) b → PutsSome G Gets (shown_of d v a n) (shown_of d v b n)
code_said {X} {G} Gets line code n d v named a b is gets put =
    let text = subst (λ (i : Code). Writes G a (refusal_line i line) b) is put in
    (refuses (desk_state d v) named line, gets, said_here d d v (refusal_line named line) a b n (same_desk d) text)

-- ---- texts of which one is said

pub text_said : {X : Type 0} {G : Ghosts X} (Gets : Reply State → Type 0) (text : List ℕ) (n : ℕ) (d d' : DeskView) (v : SessionView) (a b : Writer X)
    → IsSameDesk d d' → Gets (says (desk_state d v) text) → Writes G a text b → PutsSome G Gets (shown_of d v a n) (shown_of d' v b n)
text_said {X} {G} Gets text n d d' v a b same gets put = (says (desk_state d v) text, gets, said_here d d' v text a b n same put)

-- the same replies, by an equal report
pub as_made : {X : Type 0} {G : Ghosts X} (names : NameTable) (s : State) (made report : Report) (x y : Speaking NameTable State X) → report ≡ made
    → PutsSome G (Reports names s made) x y → PutsSome G (Reports names s report) x y
as_made {X} {G} names s made report x y is h = let P : Report → Type 0 = λ z. PutsSome G (Reports names s z) x y in subst P (sym is) h

-- the steps counted, spelled otherwise
pub with_steps : {X : Type 0} {G : Ghosts X} (Gets : Reply State → Type 0) (x : Speaking NameTable State X) (d : DeskView) (v : SessionView) (a : Writer X) (n k : ℕ)
    → k ≡ n → PutsSome G Gets x (shown_of d v a n) → PutsSome G Gets x (shown_of d v a k)
with_steps {X} {G} Gets x d v a n k is h = let P : ℕ → Type 0 = λ i. PutsSome G Gets x (shown_of d v a i) in subst P (sym is) h
