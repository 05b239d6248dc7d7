-- A text that was put is a reply of a study.
use Rattle.std.proofs.Common.{◌≡◌, ℕ, ◌+◌, List, Result, refl, sym, subst, ◌∙◌, Bool, true, false, nat_lt}
use Rattle.std.proofs.Math.Nat.{add-zero}
use Rattle.evac_law.specs.declared.code.Code.{Code}
use Rattle.evac_law.specs.declared.code.Code.TheVariants.{NoPeriod}
use Rattle.line_io.specs.Writer.{Writes}
use Rattle.line_io.specs.declared.outside.Sink.{Ghosts}
use Rattle.line_io.specs.declared.writer.Writer.{Writer}
use Rattle.model_text.specs.declared.study.StudyCommand.{StudyCommand}
use Rattle.model_text.specs.declared.fault.TextFault.{TextFault}
use Rattle.model_text.specs.StudyCommands.{study_command_of}
use Rattle.certificate_text.specs.BlockText.{refusal_line}
use Rattle.talk.specs.StudyDesks.{Kept, StudyReaches, StudyView, kept_of, shown_study}
use Rattle.evac_law.specs.declared.model.Model.{Model}
use Rattle.building_table.specs.declared.faults.NameFault.{NameFault}
use Rattle.building_table.specs.Names.{NameTable}
use Rattle.exit_study.specs.declared.rates.Least.{Least}
use Rattle.talk.specs.StudyTexts.{SaysLeast}
use Rattle.talk.specs.Studies.{AsksLeast, LeastReply, StudyReplies, study}
use Rattle.talk.specs.Speaking.{PutsReply, PutsSome, Speaking}
use Rattle.talk.specs.Talks.{Reply, refuses}

-- a text that was put after some steps
pub text_said : {X : Type 0} {G : Ghosts X} (Gets : Reply (Unit {0}) → Type 0) (d d' : StudyView) (text : List ℕ) (a b : Writer X) (n k steps : ℕ)
    → kept_of d' ≡ kept_of d → k ≡ n + steps → Gets (record { text = text; after = tt; steps = steps }) → Writes G a text b
    → PutsSome G Gets (shown_study d a n) (shown_study d' b k)
text_said {X} {G} Gets d d' text a b n k steps same counted gets put =
    let r : Reply (Unit {0}) = record { text = text; after = tt; steps = steps } in
    (r, gets, record { kept = same; state = refl; put = put; steps = counted })

-- a refusal by its code
pub code_said : {X : Type 0} {G : Ghosts X} (Gets : Reply (Unit {0}) → Type 0) (d : StudyView) (line : ℕ) (code named : Code) (a b : Writer X) (n : ℕ)
    → code ≡ named → Gets (refuses tt named line) → Writes G a (refusal_line code line) b → PutsSome G Gets (shown_study d a n) (shown_study d b n)
code_said {X} {G} Gets d line code named a b n is gets put =
    let text = subst (λ (i : Code). Writes G a (refusal_line i line) b) is put in
    text_said Gets d d (refusal_line named line) a b n n 0 refl (sym (add-zero n)) gets text

-- a moment past the horizon, and one within it
pub arc_refused : {X : Type 0} {G : Ghosts X} (d : StudyView) (line a k : ℕ) (x y : Writer X) (n : ℕ)
    → nat_lt d.session.state.model.horizon k ≡ true → Writes G x (refusal_line NoPeriod line) y
    → PutsSome G (LeastReply d.session.state.model line a k (nat_lt d.session.state.model.horizon k)) (shown_study d x n) (shown_study d y n)
arc_refused {X} {G} d line a k x y n past put =
    let P : Bool → Type 0 = λ b. LeastReply d.session.state.model line a k b (refuses tt NoPeriod line) in
    code_said (LeastReply d.session.state.model line a k (nat_lt d.session.state.model.horizon k)) d line NoPeriod NoPeriod x y n refl (subst P (sym past) refl) put

pub arc_said : {X : Type 0} {G : Ghosts X} (d d' : StudyView) (line a k : ℕ) (x y : Writer X) (n j : ℕ)
    → nat_lt d.session.state.model.horizon k ≡ false → kept_of d' ≡ kept_of d → (steps : ℕ) × (j ≡ n + steps)
    → (least : Least) × ((text : List ℕ) × SaysLeast d.session.state.model a k least text × Writes G x text y)
    → PutsSome G (LeastReply d.session.state.model line a k (nat_lt d.session.state.model.horizon k)) (shown_study d x n) (shown_study d' y j)
arc_said {X} {G} d d' line a k x y n j within same counted h =
    let m = d.session.state.model in
    let r : Reply (Unit {0}) = record { text = h.1.0; after = tt; steps = counted.0 } in
    let P : Bool → Type 0 = λ b. LeastReply m line a k b r in
    text_said (LeastReply m line a k (nat_lt m.horizon k)) d d' h.1.0 x y n j counted.0 same counted.1 (subst P (sym within) (h.0, h.1.1)) h.1.2

pub asks_named : {X : Type 0} {G : Ghosts X} (m : Model) (line k : ℕ) (made named : Result ℕ NameFault) (x y : Speaking Kept (Unit {0}) X) → made ≡ named
    → PutsSome G (AsksLeast m line k made) x y → PutsSome G (AsksLeast m line k named) x y
asks_named {X} {G} m line k made named x y is h = let P : Result ℕ NameFault → Type 0 = λ z. PutsSome G (AsksLeast m line k z) x y in subst P is h

-- ---- a line that is replied to is answered

pub answers : {X : Type 0} {G : Ghosts X} (x y : Speaking Kept (Unit {0}) X) (names : NameTable) (m : Model) (before line : ℕ) (text : List ℕ) (c : Result StudyCommand TextFault)
    → c ≡ study_command_of text → StudyReaches names m before x.kept x.state → PutsSome G (StudyReplies x.kept.0 x.kept.1 line c) x y
    → (r : Reply (Unit {0})) × (study names m).Gets line x.state text r × PutsReply G x r y × StudyReaches names m line y.kept y.state
answers x y names m before line text c is reaches h =
    let P : Result StudyCommand TextFault → Type 0 = λ z. StudyReplies x.kept.0 x.kept.1 line z h.0 in
    let Q : Kept → Type 0 = λ z. StudyReplies z.0 z.1 line (study_command_of text) h.0 in
    (h.0, subst Q reaches (subst P is h.1), h.2, h.2.kept ∙ reaches)
