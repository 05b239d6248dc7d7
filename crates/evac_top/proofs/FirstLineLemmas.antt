-- Whoever keeps the headline answers the first line after its building.
use Rattle.std.proofs.Common.{◌≡◌, ℕ, ◌+◌, ◌≤◌, Bool, true, false, ◌&&◌, nat_lt, List, [], ◌∷◌, ◌++◌, length, take, codes, slice_index, Result, Ok, Err, refl, sym, ap, subst, ◌∙◌, arith, append-nil, append_assoc, length-append, inl, inr}
use Rattle.std.proofs.lemmas.Bool.Decides.{nat_tests}
use Rattle.std.proofs.lemmas.List.{get_or-replicate}
use Rattle.std.proofs.lemmas.Slice.Eq.{bytes_eq-Decides}
use Rattle.evac_law.specs.declared.code.Code.TheVariants.{NothingToUndo}
use Rattle.evac_law.specs.declared.edit.Edit.{Edit}
use Rattle.evac_law.specs.declared.edit.EditFault.{EditFault}
use Rattle.evac_law.specs.declared.model.Model.{Model}
use Rattle.evac_law.specs.Certificates.{IsClearable}
use Rattle.evac_law.specs.Edits.{applied}
use Rattle.line_io.specs.Line.{Line, text_lines}
use Rattle.model_text.specs.declared.command.Command.{Command}
use Rattle.model_text.specs.declared.command.Command.TheVariants as commands
use Rattle.model_text.specs.declared.named_edit.NamedEdit.{NamedEdit}
use Rattle.model_text.specs.declared.fault.TextFault.{TextFault}
use Rattle.model_text.specs.Commands.{command_of, command_of_fields}
use Rattle.model_text.specs.Fields.{behind_field, fields_of}
use Rattle.model_text.specs.Grammar.{◌>>=◌}
use Rattle.model_text.specs.Taken.{Description}
use Rattle.building_table.specs.declared.faults.NameFault.{NameFault}
use Rattle.building_table.specs.Names.{names_of}
use Rattle.certificate_text.specs.BlockText.{answer_text, end_line, refusal_line}
use Rattle.edit_session.specs.Sessions.{SessionState, kept_limit, with_former}
use Rattle.replan.specs.Committed.{gone_by}
use Rattle.replan.specs.Replans.{is_bad_moment, nobody_gone}
use Rattle.talk.specs.ReplanTalks.{AdvancesTo, AsksSession, CarriesOut, ReplanReplies, Replanned, RowOf, asked_moment, asks_advance, asks_of_people, carried_on, gone_text, is_advance_word, replan, request_by, request_of}
use Rattle.talk.specs.declared.replans.request.Request.{Request}
use Rattle.talk.specs.declared.replans.request.Request.TheVariants.{Advance, Session}
use Rattle.report_text.specs.ReportText.{work_text}
use Rattle.session_text.specs.StateTexts.{block_text, work_of}
use Rattle.talk.specs.Sessions.{Advances, AsksEdit, Edits, Replies, State, Undoes, session}
use Rattle.talk.specs.Talks.{EndsAt, RepliesTo, Reply, Replying, Spoken, Talk, followed, refuses, says}
use Rattle.evac_top.specs.Accounts.{Account}
use Rattle.evac_top.specs.FirstLine.{FirstAdvanceIsCarriedOut, FirstEditGetsItsBlock, FirstReplanEditGetsItsBlock, FirstUndoIsRefused, FirstWorkIsOfTheOpening, GoesOnWith, IsAcceptedEdit, StoppingIsRefused}
use Rattle.evac_top.specs.Headline.{KeepsCarried, KeepsPromise}
use Rattle.evac_top.specs.Talking.{spoken}
use Rattle.evac_top.proofs.HeadlineLemmas.{best-block}

-- ---- a block isn't empty

empty-of : (xs : List ℕ) → length xs ≡ 0 → xs ≡ []
empty-of [] e = refl
empty-of (x ∷ xs) e = absurd (omega (arith, e))

end-some : (xs : List ℕ) → xs ++ end_line ≡ [] → ⊥
unfolding end_line
end-some [] e = cc
end-some (x ∷ xs) e = cc

block-some : (s : State) → block_text s.index s.standing ≡ [] → ⊥
unfolding answer_text
block-some s e = end-some _ e

-- ---- the first line of a talk is answered

-- what ends a talk comes after its replies
ends-behind : {S : Type 0} (talk : Talk S) (before : ℕ) (rest : List Line) (r : Reply S) (x : Spoken) → EndsAt talk before rest r x
    → (behind : List ℕ) × (x.text ≡ r.text ++ behind)
ends-behind talk before [] r x h = ([], ap (λ (y : Spoken). y.text) h ∙ sym (append-nil r.text))
ends-behind talk before (Ok line ∷ rest) r x h = ([], ap (λ (y : Spoken). y.text) h.1 ∙ sym (append-nil r.text))
ends-behind talk before (Err code ∷ rest) r x h = (refusal_line code (before + 1), ap (λ (y : Spoken). y.text) h)

-- a reply to the first line, after an opening's text
abbrev FirstReply : {S : Type 0} → Replying S → ℕ → Reply S → List ℕ → Account → Type 0
FirstReply Gets number opening line x =
    (reply : Reply _) × Gets number opening.after line reply × ((behind : List ℕ) × (x.written ≡ opening.text ++ (reply.text ++ behind)))

-- by how many lines were answered: not none, since the first doesn't quit
first-reply : {S : Type 0} (talk : Talk S) (Gets : Replying S) (last : ℕ) (line : List ℕ) (lines : List Line) (x : Account) (opening more : Reply S)
    (answered : List (List ℕ)) (rest : List Line) → Ok line ∷ lines ≡ text_lines answered ++ rest → ¬ talk.Quits line
    → RepliesTo Gets last opening.after answered more → EndsAt talk (last + length answered) rest (followed opening more) (spoken x)
    → FirstReply Gets (last + 1) opening line x
unfolding RepliesTo
first-reply talk Gets last line lines x opening more [] rest parts stays h ends =
    let T : List Line → Type 0 = λ l. EndsAt talk (last + 0) l (followed opening more) (spoken x) in
    absurd (stays (subst T (sym parts) ends).0)
first-reply {S} talk Gets last line lines x opening more (text ∷ texts) rest parts stays h ends =
    let same : text ≡ line = cc in
    let P : List ℕ → Type 0 = λ t. Gets (last + 1) opening.after t h.0 in
    let behind = ends-behind talk (last + length (text ∷ texts)) rest (followed opening more) (spoken x) ends in
    let next = h.2.0 in (
      h.0,
      subst P same h.1,
      (
        next.text ++ behind.0,
        behind.1 ∙ ap (λ (r : Reply S). (opening.text ++ r.text) ++ behind.0) h.2.2 ∙ append_assoc opening.text (h.0.text ++ next.text) behind.0
            ∙ ap (λ t. opening.text ++ t) (append_assoc h.0.text next.text behind.0),
      ),
    )

-- ---- an edit that is accepted

not-quit : (line : List ℕ) (e : NamedEdit) → command_of line ≡ Ok (commands.Edit e) → command_of line ≡ Ok commands.Quit → ⊥
not-quit line e says quits = cc

accepted-gets : (number : ℕ) (s : State) (edited : Model) (inverse : Edit) (r : Reply State) → IsClearable edited → Edits number s (Ok (edited, inverse)) r
    → Advances s edited (with_former s.standing) r
accepted-gets number s edited inverse r can (inl made) = made
accepted-gets number s edited inverse r can (inr short) = absurd (short.short.barred_by.not_clearable can)

edit-gets : (d : Description) (number : ℕ) (line : List ℕ) (edited : Model) (s : State) (r : Reply State) → s.standing.model ≡ d.model
    → IsAcceptedEdit d line edited → Replies (names_of d) number s (command_of line) r → Advances s edited (with_former s.standing) r
edit-gets d number line edited s r of a h =
    let P : Result Command TextFault → Type 0 = λ c. Replies (names_of d) number s c r in
    let Q : Result Edit NameFault → Type 0 = λ e. AsksEdit number s e r in
    let R : Model → Type 0 = λ m. Edits number s (applied m a.edit) r in
    let T : Result (Model × Edit) EditFault → Type 0 = λ made. Edits number s made r in
    let asks : AsksEdit number s (Ok a.edit) r = subst Q a.named (subst P a.says h) in
    accepted-gets number s edited a.inverse r a.can (subst T a.accepted (subst R of asks))

-- where no edit was kept, one is
one-kept : (s : SessionState) → s.former ≡ [] → with_former s ≡ s.model ∷ []
unfolding kept_limit
one-kept s e = ap (λ (ms : List Model). take kept_limit (s.model ∷ ms)) e

goes-on : (edited : Model) (s : State) (text : List ℕ) (reply : Reply State) (behind : List ℕ) (x : Account) → s.index ≡ 0 → s.standing.former ≡ []
    → Advances s edited (with_former s.standing) reply → x.written ≡ text ++ (reply.text ++ behind) → GoesOnWith edited s text x
goes-on edited s text reply behind x first none a w = record {
  reply = reply;
  behind = behind;
  of_edited = a.goes_on.gone;
  numbered = omega (arith, a.next, first);
  kept = a.goes_on.kept ∙ one-kept s.standing none;
  best = best-block reply.after reply.text a.goes_on.solved a.answer;
  thrifty = a.goes_on.thrifty;
  next = w;
}

pub first_edit_gets_its_block : FirstEditGetsItsBlock
first_edit_gets_its_block d last line rest x edited kept a =
    let s = kept.opening.after in
    let Gets : Replying State = λ line s text r. Replies (names_of d) line s (command_of text) r × KeepsPromise s r in
    let f = first-reply (session (names_of d) d.model) Gets last line rest x kept.opening kept.more kept.answered kept.rest kept.parts
    (not-quit line a.by_names a.says) kept.replies kept.ends in
    goes-on edited s kept.opening.text f.0 f.2.0 x kept.opens.first kept.opens.begins.none_former
    (edit-gets d (last + 1) line edited s f.0 kept.opens.begins.begun a f.1.0) f.2.1

-- ---- in a replan

no-command : (words rest : List (List ℕ)) (c : Command) → is_advance_word words ≡ true → command_of_fields words rest ≡ Ok c → ⊥
no-command [] rest c asks is = cc
no-command (word ∷ fields) rest c asks is =
    let same : word ≡ codes "advance" = (bytes_eq-Decides word (codes "advance")).0 asks in
    let P : List ℕ → Type 0 = λ w. command_of_fields (w ∷ fields) rest ≡ Ok c in
    let there : command_of_fields (codes "advance" ∷ fields) rest ≡ Ok c = subst P same is in
    cc

-- a line that asks to carry the plan out commands nothing in a session
no-line : (line : List ℕ) (c : Command) → asks_advance line ≡ true → command_of line ≡ Ok c → ⊥
unfolding command_of
no-line line c asks is = no-command (fields_of line) (fields_of (behind_field line)) c asks is

no-advance : (line : List ℕ) (c : Command) → command_of line ≡ Ok c → (asks : Bool) → asks_advance line ≡ asks → asks ≡ false
no-advance line c is true asks = absurd (no-line line c asks is)
no-advance line c is false asks = refl

-- before an advance a line that asks for none gets what a session says
session-gets : (d : Description) (number : ℕ) (line : List ℕ) (c : Command) (s : Replanned) (r : Reply Replanned) → s.moment ≡ 0 → command_of line ≡ Ok c
    → ReplanReplies (names_of d) number s line r → (q : Reply State) × Replies (names_of d) number s.session (command_of line) q × (r ≡ carried_on s q)
session-gets d number line c s r start says h =
    let e : request_of line ≡ Ok (Session c) =
    ap (λ (b : Bool). request_by b line) (no-advance line c says (asks_advance line) refl) ∙ ap (λ (x : Result Command TextFault). x >>= λ y. Ok (Session y)) says in
    let P : Result Request TextFault → Type 0 = λ x. RowOf (names_of d) number s x r in
    let Q : ℕ → Type 0 = λ t. AsksSession (names_of d) number s c (nat_lt 0 t && asks_of_people (names_of d) c) r in
    let g = subst Q start (subst P e h) in
    let R : Result Command TextFault → Type 0 = λ x. Replies (names_of d) number s.session x g.0 in (g.0, subst R (sym says) g.1, g.2)

pub first_replan_edit_gets_its_block : FirstReplanEditGetsItsBlock
first_replan_edit_gets_its_block d last line rest x edited kept a =
    let o = kept.opening in
    let q = kept.opens.0 in
    let opens = kept.opens.1 in
    let is = kept.opens.2 in
    let Gets : Replying Replanned = λ line s text r. ReplanReplies (names_of d) line s text r × KeepsCarried s r in
    let f = first-reply (replan (names_of d) d.model) Gets last line rest x o kept.more kept.answered kept.rest kept.parts
    (not-quit line a.by_names a.says) kept.replies kept.ends in
    let g = session-gets d (last + 1) line (commands.Edit a.by_names) o.after f.0 (ap (λ (r : Reply Replanned). r.after.moment) is) a.says f.1.0 in
    let s = o.after.session in
    let same : s ≡ q.after = ap (λ (r : Reply Replanned). r.after.session) is in
    goes-on edited s o.text g.0 f.2.0 x (ap (λ (s : State). s.index) same ∙ opens.first) (ap (λ (s : State). s.standing.former) same ∙ opens.begins.none_former)
    (edit-gets d (last + 1) line edited s g.0 (ap (λ (s : State). s.standing.model) same ∙ opens.begins.begun) a g.1)
    (f.2.1 ∙ ap (λ (r : Reply Replanned). o.text ++ (r.text ++ f.2.0)) g.2)

-- ---- stopping

no-more : (xs ys zs : List ℕ) → xs ≡ xs ++ (ys ++ zs) → ys ≡ []
no-more xs ys zs e = empty-of ys (omega (arith, ap length e, length-append xs (ys ++ zs), length-append ys zs))

pub stopping_is_refused : StoppingIsRefused
stopping_is_refused d last line rest x edited kept a stops =
    let g = first_edit_gets_its_block d last line rest x edited kept a in
    block-some g.reply.after (sym g.best.block ∙ no-more kept.opening.text g.reply.text g.behind (sym stops ∙ g.next))

-- ---- an undo

undo-stays : (line : List ℕ) → command_of line ≡ Ok commands.Undo → command_of line ≡ Ok commands.Quit → ⊥
undo-stays line says quits = cc

undo-gets : (d : Description) (number : ℕ) (line : List ℕ) (s : State) (r : Reply State) → s.standing.former ≡ [] → command_of line ≡ Ok commands.Undo
    → Replies (names_of d) number s (command_of line) r → r ≡ refuses s NothingToUndo number
undo-gets d number line s r none says h =
    let P : Result Command TextFault → Type 0 = λ c. Replies (names_of d) number s c r in
    let Q : List Model → Type 0 = λ ms. Undoes number s ms r in
    subst Q none (subst P says h)

pub first_undo_is_refused : FirstUndoIsRefused
first_undo_is_refused d last line rest x kept says =
    let o = kept.opening in
    let Gets : Replying State = λ line s text r. Replies (names_of d) line s (command_of text) r × KeepsPromise s r in
    let f = first-reply (session (names_of d) d.model) Gets last line rest x o kept.more kept.answered kept.rest kept.parts
    (undo-stays line says) kept.replies kept.ends in
    let is = undo-gets d (last + 1) line o.after f.0 kept.opens.begins.none_former says f.1.0 in
    (f.2.0, f.2.1 ∙ ap (λ (r : Reply State). o.text ++ (r.text ++ f.2.0)) is)

-- ---- the work of the opening

work-stays : (line : List ℕ) → command_of line ≡ Ok commands.Work → command_of line ≡ Ok commands.Quit → ⊥
work-stays line says quits = cc

pub first_work_is_of_the_opening : FirstWorkIsOfTheOpening
first_work_is_of_the_opening d last line rest x kept asks =
    let o = kept.opening in
    let Gets : Replying State = λ line s text r. Replies (names_of d) line s (command_of text) r × KeepsPromise s r in
    let f = first-reply (session (names_of d) d.model) Gets last line rest x o kept.more kept.answered kept.rest kept.parts
    (work-stays line asks) kept.replies kept.ends in
    let P : Result Command TextFault → Type 0 = λ c. Replies (names_of d) (last + 1) o.after c f.0 in
    let is : f.0 ≡ says o.after (work_of o.after.standing) = subst P asks f.1.0 in
    let w = o.after.standing.work in (
      f.2.0,
      f.2.1 ∙ ap (λ (r : Reply State). o.text ++ (r.text ++ f.2.0)) is ∙ ap (λ c. o.text ++ (work_text c w.pushes ++ f.2.0)) kept.opens.begins.thrifty.none_cancelled
          ∙ ap (λ p. o.text ++ (work_text 0 p ++ f.2.0)) (sym kept.opens.counted),
    )

-- ---- the first advance

free-moment : (p horizon last : ℕ) → 1 ≤ p → p ≤ horizon → last ≡ 0 → is_bad_moment p horizon last ≡ false
free-moment p horizon last low high start = grind (arith, nat_tests)

advance-gets : (d : Description) (number : ℕ) (line : List ℕ) (p : ℕ) (s : Replanned) (r : Reply Replanned) → s.moment ≡ 0 → p ≤ s.session.standing.model.horizon
    → asks_advance line ≡ true → asked_moment line ≡ Ok p → 1 ≤ p → ReplanReplies (names_of d) number s line r → CarriesOut s p r
advance-gets d number line p s r start high asks named low h =
    let e : request_of line ≡ Ok (Advance p) = ap (λ (b : Bool). request_by b line) asks ∙ ap (λ (x : Result ℕ TextFault). x >>= λ y. Ok (Advance y)) named in
    let P : Result Request TextFault → Type 0 = λ x. RowOf (names_of d) number s x r in
    let A : Bool → Type 0 = λ b. AdvancesTo number s p b r in
    subst A (free-moment p s.session.standing.model.horizon s.moment low high start) (subst P e h)

none-gone : (m : Model) (k n : ℕ) → k ≤ m.horizon → slice_index (nobody_gone m) k + n ≡ n
none-gone m k n h = omega (arith, get_or-replicate {A = ℕ} (m.horizon + 1) k 0 0 (omega (arith, h)))

pub first_advance_is_carried_out : FirstAdvanceIsCarriedOut
first_advance_is_carried_out d last line rest x p kept asks named low high =
    let o = kept.opening in
    let s = o.after.session in
    let m = s.standing.model in
    let is = kept.opens.2 in
    let Gets : Replying Replanned = λ line s text r. ReplanReplies (names_of d) line s text r × KeepsCarried s r in
    let f = first-reply (replan (names_of d) d.model) Gets last line rest x o kept.more kept.answered kept.rest kept.parts
    (no-line line commands.Quit asks) kept.replies kept.ends in
    let of_model : m ≡ d.model = ap (λ (r : Reply Replanned). r.after.session.standing.model) is ∙ kept.opens.1.begins.begun in
    let within : p ≤ m.horizon = subst (λ (n : Model). p ≤ n.horizon) (sym of_model) high in
    let goes = advance-gets d (last + 1) line p o.after f.0 (ap (λ (r : Reply Replanned). r.after.moment) is) within asks named low f.1.0 in
    let none : o.after.gone ≡ nobody_gone m = ap (λ (r : Reply Replanned). r.after.gone) is ∙ ap nobody_gone (sym of_model) in
    let after = f.0.after.gone in
    record {
      gone = after;
      counts = λ k i.
          goes.gone k i ∙ ap (λ (g : List ℕ). slice_index g k + gone_by m s.standing.plan p k) none ∙ none-gone m k (gone_by m s.standing.plan p k) i;
      last = goes.last;
      last_gone = goes.last_gone;
      behind = goes.block ++ f.2.0;
      next = f.2.1 ∙ ap (λ t. o.text ++ (t ++ f.2.0)) goes.text ∙ ap (λ t. o.text ++ t) (append_assoc (gone_text p after goes.last) goes.block f.2.0);
    }
