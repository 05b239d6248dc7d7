-- What edits and undos of a replan come to is what its lines get.
use Rattle.std.proofs.Common.{◌≡◌, ℕ, ◌+◌, true, false, ◌&&◌, nat_lt, List, Result, Ok, Err, refl, sym, subst}
use Rattle.evac_law.specs.declared.code.Code.{Code}
use Rattle.evac_law.specs.declared.code.Code.TheVariants as codes
use Rattle.evac_law.specs.declared.edit.Edit.{Edit}
use Rattle.evac_law.specs.Edits.{applied}
use Rattle.line_io.specs.Writer.{Writes}
use Rattle.line_io.specs.declared.outside.Sink.{Ghosts}
use Rattle.line_io.specs.declared.writer.Writer.{Writer}
use Rattle.model_text.specs.declared.command.Command.{Command}
use Rattle.model_text.specs.declared.command.Command.TheVariants as commands
use Rattle.model_text.specs.declared.command.Report.{Report}
use Rattle.building_table.specs.Names.{NameTable}
use Rattle.certificate_text.specs.BlockText.{refusal_line}
use Rattle.edit_session.specs.declared.faults.EditRefusal.{EditRefusal}
use Rattle.edit_session.specs.declared.faults.UndoRefusal.{UndoRefusal}
use Rattle.edit_session.specs.declared.work.Work.{Work}
use Rattle.edit_session.specs.Sessions.{EditEnds, SessionView, UndoEnds}
use Rattle.replan.specs.declared.faults.ReplanRefusal.{ReplanRefusal}
use Rattle.replan.specs.Replans.{IsCarriedOutSame, ReplanEdits, ReplanUndoes, ReplanView, is_committed, is_of_people}
use Rattle.talk.specs.SessionDesks.{DeskView, IsDesk, desk_state, shown_of}
use Rattle.talk.specs.Sessions.{Edits, Replies, Reports, Undoes}
use Rattle.talk.proofs.Saying as saying
use Rattle.talk.specs.ReplanDesks.{EditsUnless, replanned, shown_replan}
use Rattle.talk.specs.ReplanTalks.{SessionRow, asks_of_people}
use Rattle.talk.proofs.Carrying.{code_said, lifted, widened}
use Rattle.talk.proofs.Rows.{edits_late, edits_now, session_row}
use Rattle.talk.specs.Speaking.{PutsSome}
use Rattle.talk.specs.Talks.{says}

-- an edit that was made, or refused by the session: `w` is the session that stands then
module _ {X : Type 0} {G : Ghosts X} (line n k steps : ℕ) (d d' : DeskView) (v v' : ReplanView) (w : SessionView) (a b : Writer X) where
  pub edited_said : (e : Edit) (made : Result Work EditRefusal) → is_committed v e ≡ false → EditEnds v.session e made v'.session n → IsCarriedOutSame v v' → w ≡ v'.session → k ≡ steps + n
      → (EditEnds v.session e made w n
      → PutsSome G (Edits line (desk_state d v.session) (applied v.session.state.model e)) (shown_of d v.session a steps) (shown_of d' w b (steps + n)))
      → PutsSome G (EditsUnless line (replanned d v) e (nat_lt 0 v.moment && is_of_people e)) (shown_replan d v a steps) (shown_replan d' v' b k)
  edited_said e made free ends same stands counted says =
      let Gets = Edits line (desk_state d v.session) (applied v.session.state.model e) in
      let P : SessionView → Type 0 = λ x. EditEnds v.session e made x n → PutsSome G Gets (shown_of d v.session a steps) (shown_of d' x b (steps + n)) in
      let Q : ℕ → Type 0 = λ i. PutsSome G Gets (shown_of d v.session a steps) (shown_of d' v'.session b i) in
      let said = subst Q (sym counted) (subst P stands says ends) in
      widened _ _ _ _ (edits_now line (replanned d v) e (nat_lt 0 v.moment && is_of_people e) free) (lifted Gets d d' v v' a b steps k same.moment same.gone said)

  pub undone_said : (names : NameTable) (undone : Result Work UndoRefusal) → ReplanUndoes v undone v' n → w ≡ v'.session → k ≡ steps + n
      → (UndoEnds v.session undone w n
      → PutsSome G (Undoes line (desk_state d v.session) v.session.state.former) (shown_of d v.session a steps) (shown_of d' w b (steps + n)))
      → PutsSome G (SessionRow names line (replanned d v) commands.Undo) (shown_replan d v a steps) (shown_replan d' v' b k)
  undone_said names undone ends stands counted says =
      let Gets = Undoes line (desk_state d v.session) v.session.state.former in
      let P : SessionView → Type 0 = λ x. UndoEnds v.session undone x n → PutsSome G Gets (shown_of d v.session a steps) (shown_of d' x b (steps + n)) in
      let Q : ℕ → Type 0 = λ i. PutsSome G Gets (shown_of d v.session a steps) (shown_of d' v'.session b i) in
      let said = subst Q (sym counted) (subst P stands says ends.0) in
      widened _ _ _ _ (session_row names line (replanned d v) commands.Undo refl) (lifted Gets d d' v v' a b steps k ends.1.moment ends.1.gone said)

-- an edit that comes too late
pub late_said : {X : Type 0} {G : Ghosts X} (line : ℕ) (code : Code) (n k : ℕ) (d : DeskView) (v v' : ReplanView) (e : Edit) (a b : Writer X) → is_committed v e ≡ true → v' ≡ v
    → k ≡ n → code ≡ codes.Committed → Writes G a (refusal_line code line) b
    → PutsSome G (EditsUnless line (replanned d v) e (nat_lt 0 v.moment && is_of_people e)) (shown_replan d v a n) (shown_replan d v' b k)
late_said {X} {G} line code n k d v v' e a b late same counted is put =
    let Gets = EditsUnless line (replanned d v) e (nat_lt 0 v.moment && is_of_people e) in
    let P : ReplanView → Type 0 = λ x. PutsSome G Gets (shown_replan d v a n) (shown_replan d x b k) in
    let Q : ℕ → Type 0 = λ i. PutsSome G Gets (shown_replan d v a n) (shown_replan d v b i) in
    subst P (sym same) (subst Q (sym counted) (code_said Gets line code n d v codes.Committed a b is (edits_late line (replanned d v) e (nat_lt 0 v.moment && is_of_people e) _ late refl) put))

-- what an edit came to, by its refusal
pub refused_by : (v v' : ReplanView) (e : Edit) (n : ℕ) (why named : ReplanRefusal) → why ≡ named → ReplanEdits v e (Err why) v' n → ReplanEdits v e (Err named) v' n
refused_by v v' e n why named is h = let P : ReplanRefusal → Type 0 = λ r. ReplanEdits v e (Err r) v' n in subst P is h

-- a desk that serves the session that stands
pub desk_stands : (d : DeskView) (w w' : SessionView) → w ≡ w' → IsDesk d w → IsDesk d w'
desk_stands d w w' is h = let P : SessionView → Type 0 = λ x. IsDesk d x in subst P is h

pub edit_stands : (v : SessionView) (e : Edit) (made : Result Work EditRefusal) (w w' : SessionView) (n : ℕ) → w ≡ w' → EditEnds v e made w' n → EditEnds v e made w n
edit_stands v e made w w' n is h = let P : SessionView → Type 0 = λ x. EditEnds v e made x n in subst P (sym is) h

pub undo_stands : (v : SessionView) (undone : Result Work UndoRefusal) (w w' : SessionView) (n : ℕ) → w ≡ w' → UndoEnds v undone w' n → UndoEnds v undone w n
undo_stands v undone w w' n is h = let P : SessionView → Type 0 = λ x. UndoEnds v undone x n in subst P (sym is) h

-- a report
pub report_said : {X : Type 0} {G : Ghosts X} (names : NameTable) (line n : ℕ) (report : Report) (d d' : DeskView) (v : ReplanView) (w : SessionView) (a b : Writer X)
    → w ≡ v.session
    → PutsSome G (Reports names (desk_state d w) report) (shown_of d w a n) (shown_of d' w b n)
    → PutsSome G (SessionRow names line (replanned d v) (commands.Report report)) (shown_replan d v a n) (shown_replan d' v b n)
report_said {X} {G} names line n report d d' v w a b is says =
    let P : SessionView → Type 0 = λ x. PutsSome G (Reports names (desk_state d x) report) (shown_of d x a n) (shown_of d' x b n) in
    widened _ _ _ _ (session_row names line (replanned d v) (commands.Report report) refl)
    (lifted (Reports names (desk_state d v.session) report) d d' v v a b n n refl refl (subst P is says))

-- a text that a line which is no edit gets
pub text_said : {X : Type 0} {G : Ghosts X} (names : NameTable) (line n : ℕ) (c : Command) (text : List ℕ) (d : DeskView) (v : ReplanView) (a b : Writer X)
    → asks_of_people names c ≡ false → Replies names line (desk_state d v.session) (Ok c) (says (desk_state d v.session) text)
    → Writes G a text b
    → PutsSome G (SessionRow names line (replanned d v) c) (shown_replan d v a n) (shown_replan d v b n)
text_said {X} {G} names line n c text d v a b none gets put =
    widened _ _ _ _ (session_row names line (replanned d v) c none)
    (lifted (Replies names line (desk_state d v.session) (Ok c)) d d v v a b n n refl refl
    (saying.text_said (Replies names line (desk_state d v.session) (Ok c)) text n d d v.session a b (saying.same_desk d) gets put))
