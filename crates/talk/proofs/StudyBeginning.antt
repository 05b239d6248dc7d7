-- A study that begins is opened.
use Rattle.std.proofs.Common.{◌≡◌, ℕ, [], Result, Ok, Err, IfOk, refl, ap, subst, ◌∙◌}
use Rattle.evac_law.specs.declared.model.Model.{Model}
use Rattle.evac_law.specs.Certificates.{IsClearable}
use Rattle.evac_law.proofs.Optimal.{certified_is_clearable}
use Rattle.building_table.specs.Names.{NameTable}
use Rattle.edit_session.specs.declared.faults.BeginFault.{BeginFault}
use Rattle.talk.specs.StudyDesks.{Kept, StudyBegins, StudyView, kept_of}
use Rattle.talk.specs.Studies.{study}
use Rattle.talk.specs.Speaking.{TalkBegins}

pub begun_opens : (names : NameTable) (m : Model) (result : Result StudyView BeginFault) (n : ℕ) → StudyBegins names m result n → TalkBegins (λ d. []) (λ d. tt) (study names m) m result n
begun_opens names m (Ok d) n h =
    let begun = h.1.0 in
    let s = d.session.state in
    record { clearable = subst IsClearable begun.begun (certified_is_clearable s.model s.plan s.labels s.last begun.solved.valid begun.solved.certified); silent = refl }
begun_opens names m (Err fault) n h = h

pub begun_keeps : (names : NameTable) (m : Model) (result : Result StudyView BeginFault) (n : ℕ) → StudyBegins names m result n
    → IfOk result (λ d. (before : ℕ) → kept_of d ≡ (names, m))
begun_keeps names m (Ok d) n h =
    let P : NameTable → Kept = λ x. (x, d.session.state.model) in
    let Q : Model → Kept = λ x. (names, x) in
    λ before. ap P h.0 ∙ ap Q h.1.0.begun
begun_keeps names m (Err fault) n h = tt
