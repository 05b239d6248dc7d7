-- What the calls of a session come to is what its lines get.
use Rattle.std.proofs.Common.{◌≡◌, ℕ, ◌+◌, ◌≤◌, List, Ok, Err, Result, refl, sym, ap, ◌∙◌, subst, inl, inr, arith}
use Rattle.evac_law.specs.declared.code.Code.TheVariants.{NothingToUndo}
use Rattle.evac_law.specs.declared.edit.Edit.{Edit}
use Rattle.evac_law.specs.declared.edit.EditFault.{EditFault}
use Rattle.evac_law.specs.declared.model.Model.{Model}
use Rattle.evac_law.specs.Certificates.{label_cut}
use Rattle.evac_law.specs.Edits.{applied, fault_code}
use Rattle.evac_law.proofs.Optimal.{certified_is_best}
use Rattle.certificate_text.specs.Block.{number_field_limit}
use Rattle.certificate_text.specs.BlockLaws.{BlockReadsBack}
use Rattle.certificate_text.specs.BlockText.{shortfall_text}
use Rattle.edit_session.specs.declared.faults.EditRefusal.TheVariants.{Fault, NotCleared}
use Rattle.edit_session.specs.declared.faults.UndoRefusal.TheVariants.{NothingToUndo}
use Rattle.edit_session.specs.declared.work.Work.{Work}
use Rattle.edit_session.specs.Sessions.{BeginEnds, EditEnds, IsEdited, IsSolved, IsUndone, SessionState, SessionView, UndoEnds}
use Rattle.edit_session.specs.Thrift.{IsSpent}
use Rattle.session_text.specs.StateTexts.{block_text}
use Rattle.talk.specs.SessionDesks.{DeskView, desk_state}
use Rattle.talk.specs.Sessions.{Edits, IsAnswerText, Opens, State, Undoes}
use Rattle.talk.specs.Talks.{Reply, refuses}

-- the block of a state
abbrev pub block_of_state : State → List ℕ
block_of_state s = block_text s.index s.standing

-- a solved state is answered by its block
pub answer_of : BlockReadsBack → (s : State) → s.index ≤ number_field_limit → IsSolved s.standing → IsAnswerText s (block_of_state s)
answer_of back s few h = record {
  block = refl;
  best = certified_is_best s.standing.model s.standing.plan s.standing.labels s.standing.last h.valid h.certified;
  reads_back = back s.index s.standing.model s.standing.plan s.standing.labels s.standing.last few h.valid h.certified h.ordered;
}

-- what stands after the next block
abbrev pub next_state : State → SessionView → State
next_state s v = record { index = s.index + 1; standing = v.state }

abbrev pub block_reply : State → ℕ → Reply State
block_reply s steps = record { text = block_of_state s; after = s; steps = steps }

zero_few : 0 ≤ number_field_limit
unfolding number_field_limit
zero_few = omega arith

-- a session begins
pub begin_opens : BlockReadsBack → (m : Model) (d : DeskView) (v : SessionView) (steps : ℕ) → d.index ≡ 0 → BeginEnds m (Ok v) steps → Opens m (block_reply (desk_state d v) steps)
begin_opens back m d v steps first h =
    record { begins = h.0; first = first; answer = answer_of back (desk_state d v) (omega (arith, first, zero_few)) h.0.solved; counted = h.2 }

-- an edit that is made
pub edit_advances : BlockReadsBack → (line : ℕ) (s : State) (v v' : SessionView) (e : Edit) (w : Work) (steps : ℕ) → v.state ≡ s.standing
    → s.index + 1 ≤ number_field_limit → EditEnds v e (Ok w) v' steps → Edits line s (applied s.standing.model e) (block_reply (next_state s v') steps)
edit_advances back line s v v' e w steps same few h =
    let P : SessionState → Type 0 = λ x. IsEdited x e v'.state in
    let made : IsEdited s.standing e v'.state = subst P same h.0 in
    let Q : Result (Model × Edit) EditFault → Type 0 = λ x. Edits line s x (block_reply (next_state s v') steps) in
    let W : Work → Type 0 = λ x. (x.pushes ≤ steps) × (steps ≤ x.cancelled + x.pushes) in
    subst Q (sym made.accepted) (inl (record {
      goes_on = made.goes_on;
      next = refl;
      answer = answer_of back (next_state s v') few made.goes_on.solved;
      counted = subst W (sym h.1) h.3;
    }))

-- an edit that is refused because not everybody could get out
pub edit_stays : (line : ℕ) (s : State) (v v' : SessionView) (e : Edit) (all most steps : ℕ) → v.state ≡ s.standing
    → (h : EditEnds v e (Err (NotCleared all most)) v' steps)
    → Edits line s (applied s.standing.model e)
    (record { text = shortfall_text line h.0.edited (label_cut h.0.edited v'.refused h.0.edited.horizon) most; after = s; steps = steps })
edit_stays line s v v' e all most steps same h =
    let b = h.0 in
    let r : Reply State = record { text = shortfall_text line b.edited (label_cut b.edited v'.refused b.edited.horizon) most; after = s; steps = steps } in
    let Q : Result (Model × Edit) EditFault → Type 0 = λ x. Edits line s x r in
    let A : applied s.standing.model e ≡ Ok (b.edited, b.inverse) = ap (λ (x : SessionState). applied x.model e) (sym same) ∙ b.accepted in
    let S : SessionState → Type 0 = λ x. IsSpent x.model x.plan b.edited most steps in
    subst Q (sym A) (inr (record {
      most = most;
      short = record { cut = label_cut b.edited v'.refused b.edited.horizon; barred_by = b.not_cleared.barred_by; block = refl };
      same = refl;
      spent = subst S same b.spent;
    }))

-- an edit with a fault
pub edit_faults : (line : ℕ) (s : State) (v v' : SessionView) (e : Edit) (fault : EditFault) (steps : ℕ) → v.state ≡ s.standing
    → EditEnds v e (Err (Fault fault)) v' steps → Edits line s (applied s.standing.model e) (refuses s (fault_code fault) line)
edit_faults line s v v' e fault steps same h =
    let Q : Result (Model × Edit) EditFault → Type 0 = λ x. Edits line s x (refuses s (fault_code fault) line) in
    subst Q (sym (ap (λ (x : SessionState). applied x.model e) (sym same) ∙ h.0)) refl

-- an undo
pub undo_advances : BlockReadsBack → (line : ℕ) (s : State) (v v' : SessionView) (w : Work) (steps : ℕ) → v.state ≡ s.standing
    → s.index + 1 ≤ number_field_limit → UndoEnds v (Ok w) v' steps → Undoes line s s.standing.former (block_reply (next_state s v') steps)
undo_advances back line s v v' w steps same few h =
    let P : SessionState → Type 0 = λ x. IsUndone x v'.state in
    let made : IsUndone s.standing v'.state = subst P same h.0 in
    let Q : List Model → Type 0 = λ x. Undoes line s x (block_reply (next_state s v') steps) in
    let W : Work → Type 0 = λ x. (x.pushes ≤ steps) × (steps ≤ x.cancelled + x.pushes) in
    subst Q (sym made.last_kept) (record {
      goes_on = made.goes_on;
      next = refl;
      answer = answer_of back (next_state s v') few made.goes_on.solved;
      counted = subst W (sym h.1) h.3;
    })

pub undo_refused : (line : ℕ) (s : State) (v v' : SessionView) (steps : ℕ) → v.state ≡ s.standing → UndoEnds v (Err NothingToUndo) v' steps
    → Undoes line s s.standing.former (refuses s NothingToUndo line)
undo_refused line s v v' steps same h =
    let Q : List Model → Type 0 = λ x. Undoes line s x (refuses s NothingToUndo line) in
    subst Q (sym (ap (λ (x : SessionState). x.former) (sym same) ∙ h.0)) refl
