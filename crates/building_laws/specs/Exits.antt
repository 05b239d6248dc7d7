-- What two exits cost that are lost together.
use Rattle.std.specs.Prelude.{◌≡◌, ◌≢◌, ℕ, ◌+◌, ◌<◌, ◌≤◌, List, length, Ok}
use Rattle.evac_law.specs.declared.edit.Edit.{Edit}
use Rattle.evac_law.specs.declared.edit.Edit.TheVariants.{ShutExit}
use Rattle.evac_law.specs.declared.model.Model.{Model}
use Rattle.evac_law.specs.declared.plan.Move.{Move}
use Rattle.evac_law.specs.Building.{IsValid}
use Rattle.evac_law.specs.Edits.{applied}
use Rattle.evac_law.specs.Plans.{IsFeasible, out_by}
use Rattle.building_laws.specs.Duality.{IsBestAt}

-- two exits shut together keep inside, by every moment, at least as many people as each of them shut alone, added up
abbrev pub TwoExitsCostMost : Type 0
TwoExitsCostMost =
    (m one other both : Model) (e f : ℕ) (i j g : Edit) → IsValid m → e < length m.nodes → f < length m.nodes → e ≢ f
    → applied m (ShutExit e) ≡ Ok (one, i) → applied m (ShutExit f) ≡ Ok (other, j) → applied one (ShutExit f) ≡ Ok (both, g)
    → (p q u v : List Move) (k : ℕ) → k ≤ m.horizon → IsFeasible m p k → IsFeasible both q k → IsBestAt one u k → IsBestAt other v k
    → out_by m p k + out_by both q k ≤ out_by one u k + out_by other v k
