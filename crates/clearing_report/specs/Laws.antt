-- The law of those who would meet nobody.
use Rattle.std.specs.Prelude.{◌≡◌, ℕ, ◌≤◌, List, Some}
use Rattle.evac_law.specs.declared.model.Model.{Model}
use Rattle.evac_law.specs.declared.plan.Move.{Move}
use Rattle.evac_law.specs.Building.{IsValid, people}
use Rattle.evac_law.specs.Plans.{IsFeasible, out_by}
use Rattle.clearing_report.specs.Walks.{IsUncongested}

-- no plan has everybody out sooner than the farthest start needs who meets nobody
abbrev pub UncongestedIsLeast : Type 0
UncongestedIsLeast =
    (m : Model) (p : List Move) (u k : ℕ) → IsValid m → IsUncongested m (Some u) → IsFeasible m p k → out_by m p k ≡ people m → u ≤ k
