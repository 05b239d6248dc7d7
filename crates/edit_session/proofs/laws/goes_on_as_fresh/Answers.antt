use Rattle.std.proofs.Common.{subst}
use Rattle.evac_law.specs.declared.model.Model.{Model}
use Rattle.evac_law.specs.Building.{IsValid}
use Rattle.evac_law.specs.Certificates.{IsCertified}
use Rattle.evac_law.proofs.Optimal.{certified_plans_agree}
use Rattle.edit_session.proofs.laws.goes_on_as_fresh.Goals as goal

pub returns : goal.returns
returns c = λ s t f m earlier h g.
    let P : Model → Type 0 = λ a. IsCertified a t.plan t.labels t.last in
    let Q : Model → Type 0 = λ a. IsCertified a f.plan f.labels f.last in
    certified_plans_agree m t.plan f.plan t.labels f.labels t.last f.last (subst IsValid h.gone h.solved.valid) (subst P h.gone h.solved.certified)
    (subst Q g.begun g.solved.certified)
