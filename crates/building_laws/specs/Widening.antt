-- What wider arcs and larger rooms can bring at most.
use Rattle.std.specs.Prelude.{ℕ, ◌+◌, ◌-◌, ◌≤◌, not, ◌&&◌, if◌then◌else◌, List}
use Rattle.std.specs.List.{sum_by}
use Rattle.evac_law.specs.declared.model.Model.{Model}
use Rattle.evac_law.specs.declared.plan.Move.{Move}
use Rattle.evac_law.specs.Building.{IsValid, capacity, rate}
use Rattle.evac_law.specs.Cuts.{Cut, cut_value, leaves_cut}
use Rattle.evac_law.specs.Plans.{IsFeasible, out_by}
use Rattle.evac_law.specs.Sums.{below, moments_to, places}
use Rattle.building_laws.specs.Looser.{IsLooser}

-- what the items of a cut grow by, from a model to a looser one
abbrev pub gain : Model → Model → Cut → ℕ → ℕ
gain m m' x k =
    sum_by (λ n. sum_by (λ t. if x n t && not (x n (t + 1)) then capacity m' n - capacity m n else 0) (below k)) (places m.nodes)
    + sum_by (λ t. sum_by (λ a. if leaves_cut m x k t a then rate m' a t - rate m a t else 0) (places m.arcs)) (moments_to k)

-- in a looser building no more people are out by a moment than a cut was worth then and its items grow by
abbrev pub WideningIsBounded : Type 0
WideningIsBounded =
    (m m' : Model) (x : Cut) (q : List Move) (k : ℕ) → IsValid m' → IsLooser m m' → k ≤ m.horizon → IsFeasible m' q k
    → out_by m' q k ≤ cut_value m x k + gain m m' x k
